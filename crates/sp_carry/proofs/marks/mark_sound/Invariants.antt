use Rattle.std.proofs.Common.{take}
use Rattle.std.specs.List.{list_any}
use Rattle.sp_carry.specs.RivalBlocks.{is_sound_in, IsMarkedBy}
use Rattle.sp_carry.proofs.marks.mark_sound.Given as goal

abbrev pub invariant-carriers : goal.invariant-carriers
invariant-carriers l = IsMarkedBy (λ z. list_any (λ c. is_sound_in l.rows c z) (take l.c-index l.list)) l.initial.into l.into
