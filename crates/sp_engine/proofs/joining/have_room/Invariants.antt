use Rattle.std.proofs.Common.{◌≡◌, ◌+◌, ◌*◌, take}
use Rattle.sp_engine.specs.Votes.{entries_of}
use Rattle.sp_engine.proofs.joining.have_room.Given as goal

abbrev pub invariant-views : goal.invariant-views
invariant-views l = l.left + 12 * entries_of (take l.i l.views) ≡ l.bytes
