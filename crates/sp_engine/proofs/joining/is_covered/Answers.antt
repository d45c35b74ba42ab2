use Rattle.std.proofs.Common.{◌∙◌}
use Rattle.sp_engine.proofs.TopTips.{top_told}
use Rattle.sp_engine.proofs.joining.is_covered.Goals as goal

pub returns-in-Some : goal.returns-in-Some
returns-in-Some c =
    c.is_some.ensures
    ∙ top_told c.args.dag.now c.len-blocks.ensures.numbered.order c.in-Some.top c.args.members.now c.future.result.now c.highest-in-Some.result c.in-Some.ensures.some c.future.ensures c.highest-in-Some.ensures.none
