use Rattle.std.proofs.Common.{take}
use Rattle.std.specs.List.{list_any}
use Rattle.sp_carry.specs.Rivals.{is_of_spender, IsNotedBy}
use Rattle.sp_carry.proofs.rivals.note_rivals.Given as goal

abbrev pub invariant-inputs : goal.invariant-inputs
invariant-inputs l = IsNotedBy (λ d. list_any (λ i. is_of_spender l.table.txs.items l.table.rows.items l.tx i d) (take l.input-index l.inputs)) l.initial.into l.into
