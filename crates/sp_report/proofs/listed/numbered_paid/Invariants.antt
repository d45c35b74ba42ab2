use Rattle.std.proofs.Common.{◌≡◌, ◌≤◌, length, take}
use Rattle.std.specs.Prelude.{◌==◌, filter, not}
use Rattle.sp_engine.specs.Transactions.{balance_by_id, locks}
use Rattle.sp_report.proofs.listed.numbered_paid.Given as goal

abbrev pub invariant-number : goal.invariant-number
invariant-number l = record {
  locks : l.paid.items ≡ filter (λ lock. not (balance_by_id l.engine.profile l.engine.kept lock == 0)) (take l.number (locks l.engine.kept));
  few : length l.paid.items ≤ l.number;
}
