use Rattle.std.proofs.Common.{◌∙◌, sym, arith}
use Rattle.sp_engine.proofs.Facts.{engine_of, order_count, present_count}
use Rattle.sp_engine.proofs.engine.Engine.present.Goals as goal

pub returns-clause-count : goal.returns-clause-count
returns-clause-count c = c.len.ensures.value ∙ sym (present_count (engine_of c.self.view_is c.self.invariant))

pub returns-clause-long : goal.returns-clause-long
returns-clause-long c = order_count (engine_of c.self.view_is c.self.invariant)

pub returns-clause-some : goal.returns-clause-some
returns-clause-some c = omega (arith, c.len.ensures.numbered.some, c.len.ensures.value)

pub returns-clause-few : goal.returns-clause-few
returns-clause-few c = omega (arith, c.len.ensures.numbered.small, c.len.ensures.value)
