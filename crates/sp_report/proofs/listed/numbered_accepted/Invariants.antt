use Rattle.std.proofs.Common.{◌≡◌, ◌≤◌, length, take}
use Rattle.std.specs.Prelude.{filter}
use Rattle.sp_carry.specs.Ledger.{is_accepted}
use Rattle.sp_pool.specs.Kept.{present}
use Rattle.sp_engine.specs.Transactions.{ledger_by_id, tx_ids}
use Rattle.sp_report.proofs.listed.numbered_accepted.Given as goal

abbrev pub invariant-number : goal.invariant-number
invariant-number l = record {
  ids : l.ids.items ≡ filter (λ id. is_accepted (ledger_by_id l.engine.profile l.engine.kept) (present l.engine.kept) id) (take l.number (tx_ids l.engine.kept));
  few : length l.ids.items ≤ l.number;
}
