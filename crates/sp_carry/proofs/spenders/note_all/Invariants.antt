use Rattle.std.proofs.Common.{take}
use Rattle.sp_carry.specs.Lookups.{IsNoted}
use Rattle.sp_carry.proofs.spenders.note_all.Given as goal

abbrev pub invariant-inputs : goal.invariant-inputs
invariant-inputs l = IsNoted l.initial.lists l.lists (take l.input-index l.inputs) l.number
