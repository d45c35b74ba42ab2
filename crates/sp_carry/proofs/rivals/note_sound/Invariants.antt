use Rattle.std.proofs.Common.{take}
use Rattle.std.specs.List.{list_any}
use Rattle.sp_carry.specs.Rivals.{is_sound_at, IsNotedBy}
use Rattle.sp_carry.proofs.rivals.note_sound.Given as goal

abbrev pub invariant-carriers : goal.invariant-carriers
invariant-carriers l = IsNotedBy (λ d. list_any (λ c. is_sound_at l.rows c d) (take l.c-index l.list)) l.initial.into l.into
