use Rattle.std.proofs.Common.{take}
use Rattle.std.specs.List.{list_any}
use Rattle.sp_carry.specs.RivalBlocks.{is_in_row_of, AreMarkedBy}
use Rattle.sp_carry.proofs.rival_rows.mark_others.Given as goal

abbrev pub invariant-others : goal.invariant-others
invariant-others l = AreMarkedBy (λ t z. list_any (λ other. is_in_row_of l.tx l.block other t z) (take l.other-index l.list)) l.initial.rows.items l.rows.items
