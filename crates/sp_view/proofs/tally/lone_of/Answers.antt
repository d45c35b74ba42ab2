use Rattle.std.proofs.Common.{refl}
use Rattle.sp_view.proofs.Lone.{lone_is}
use Rattle.sp_view.proofs.tally.lone_of.Goals as goal

pub returns-in-None : goal.returns-in-None
returns-in-None c = lone_is c.args.row.now c.in-Some.place c.in-Some.ensures.some (c.highest_below.ensures.none.0 (rw c.in-None.is refl)) c.in-Some.ensures.range
