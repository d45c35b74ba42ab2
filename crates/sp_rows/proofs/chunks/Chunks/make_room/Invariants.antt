use Rattle.std.proofs.Common.{◌-◌, length}
use Rattle.sp_rows.specs.Kept.{Grows}
use Rattle.sp_rows.proofs.chunks.Chunks.make_room.Given as goal

abbrev pub invariant-chunks : goal.invariant-chunks
invariant-chunks l = Grows l.initial.self l.self

abbrev pub decreases-chunks : goal.decreases-chunks
decreases-chunks l = l.wanted - length l.self
