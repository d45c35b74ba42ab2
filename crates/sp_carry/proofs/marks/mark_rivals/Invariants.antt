use Rattle.std.proofs.Common.{take}
use Rattle.std.specs.List.{list_any}
use Rattle.sp_carry.specs.RivalBlocks.{has_spender_in, IsMarkedBy}
use Rattle.sp_carry.proofs.marks.mark_rivals.Given as goal

abbrev pub invariant-inputs : goal.invariant-inputs
invariant-inputs l = IsMarkedBy (λ z. list_any (λ i. has_spender_in l.table.txs.items l.table.rows.items l.tx i z) (take l.input-index l.inputs)) l.initial.into l.into
