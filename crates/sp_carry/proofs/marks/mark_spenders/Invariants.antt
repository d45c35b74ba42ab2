use Rattle.std.proofs.Common.{take}
use Rattle.std.specs.List.{list_any}
use Rattle.sp_carry.specs.RivalBlocks.{has_other_in, IsMarkedBy}
use Rattle.sp_carry.proofs.marks.mark_spenders.Given as goal

abbrev pub invariant-spenders : goal.invariant-spenders
invariant-spenders l = IsMarkedBy (λ z. list_any (λ other. has_other_in l.table.rows.items l.tx other z) (take l.other-index l.spenders)) l.initial.into l.into
