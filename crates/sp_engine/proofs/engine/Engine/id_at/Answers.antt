use Rattle.std.proofs.Common.{arith}
use Rattle.sp_engine.proofs.Facts.{engine_of, present_count}
use Rattle.sp_engine.proofs.engine.Engine.id_at.Goals as goal

pub id-requires : goal.id-requires
id-requires c =
    let e = engine_of c.self.view_is c.self.invariant in
    omega (arith, present_count e, c.requires.within)
