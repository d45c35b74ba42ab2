use Rattle.std.proofs.Common.{◌≡◌, ◌≤◌, ◌==◌, not, count_by, take}
use Rattle.sp_engine.specs.Transactions.{balance_by_id, locks}
use Rattle.spectre.proofs.counting.count_paid.Given as goal

abbrev pub invariant-number : goal.invariant-number
invariant-number l =
    let profile = l.engine.profile in
    let kept = l.engine.kept in
    record {
      counted : l.count ≡ count_by (λ lock. not (balance_by_id profile kept lock == 0)) (take l.number (locks kept));
      few : l.count ≤ l.number;
    }
