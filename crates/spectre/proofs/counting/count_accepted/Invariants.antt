use Rattle.std.proofs.Common.{◌≡◌, ◌≤◌, count_by, take}
use Rattle.sp_carry.specs.Ledger.{is_accepted}
use Rattle.sp_engine.specs.Transactions.{ledger_by_id, tx_ids}
use Rattle.sp_pool.specs.Kept.{present}
use Rattle.spectre.proofs.counting.count_accepted.Given as goal

abbrev pub invariant-number : goal.invariant-number
invariant-number l =
    let profile = l.engine.profile in
    let kept = l.engine.kept in
    record {
      counted : l.count ≡ count_by (λ id. is_accepted (ledger_by_id profile kept) (present kept) id) (take l.number (tx_ids kept));
      few : l.count ≤ l.number;
    }
