use Rattle.std.proofs.Common.{take}
use Rattle.std.specs.List.{list_any}
use Rattle.sp_carry.specs.RivalBlocks.{is_in_row_of_spender, AreMarkedBy}
use Rattle.sp_carry.proofs.rival_rows.mark_spenders.Given as goal

abbrev pub invariant-inputs : goal.invariant-inputs
invariant-inputs l = AreMarkedBy (λ t z. list_any (λ i. is_in_row_of_spender l.table.txs.items l.tx l.block i t z) (take l.input-index l.inputs)) l.initial.rows.items l.rows.items
