use Rattle.std.proofs.Common.{ap, arith, length}
use Rattle.sp_engine.proofs.Facts.{engine_of, few_present, present_count}
use Rattle.sp_engine.proofs.engine.Engine.waiting.Goals as goal

pub overflow_sub-result : goal.overflow_sub-result
overflow_sub-result c =
    omega (arith, few_present c.self.invariant.0, c.len.ensures.value, c.kept.ensures.count)

pub returns-clause-count : goal.returns-clause-count
returns-clause-count c =
    let e = engine_of c.self.view_is c.self.invariant in
    let same = ap (λ l. length l.kept) c.self.view_is in
    omega (arith, few_present e, present_count e, same, c.len.ensures.value, c.kept.ensures.count)

pub returns-clause-few : goal.returns-clause-few
returns-clause-few c = omega (arith, c.kept.ensures.blocks.few, c.kept.ensures.count, c.len.ensures.numbered.some, c.len.ensures.value)
