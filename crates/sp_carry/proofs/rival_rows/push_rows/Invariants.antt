use Rattle.std.proofs.Common.{◌≤◌, length}
use Rattle.std.specs.Prelude.{vec_capacity}
use Rattle.sp_carry.specs.Kept.{carried_of}
use Rattle.sp_carry.specs.RivalBlocks.{ArePushed}
use Rattle.sp_carry.proofs.rival_rows.push_rows.Given as goal

abbrev pub invariant-txs : goal.invariant-txs
invariant-txs l = record {
  room : length l.table.txs.items ≤ vec_capacity l.rows;
  pushed : ArePushed (carried_of l.table) l.initial.rows.items l.rows.items l.tx;
}
