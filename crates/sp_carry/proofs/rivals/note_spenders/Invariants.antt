use Rattle.std.proofs.Common.{take}
use Rattle.std.specs.List.{list_any}
use Rattle.sp_carry.specs.Rivals.{is_of_other, IsNotedBy}
use Rattle.sp_carry.proofs.rivals.note_spenders.Given as goal

abbrev pub invariant-spenders : goal.invariant-spenders
invariant-spenders l = IsNotedBy (λ d. list_any (λ other. is_of_other l.table.rows.items l.tx other d) (take l.other-index l.spenders)) l.initial.into l.into
