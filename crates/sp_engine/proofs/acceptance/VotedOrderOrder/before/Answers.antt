use Rattle.std.proofs.Common.{◌∙◌, ap, sym}
use Rattle.sp_engine.proofs.VotedBlocks.{before_is, is_first, not_first}
use Rattle.sp_engine.proofs.acceptance.VotedOrderOrder.before.Goals as goal

pub returns-in-Before : goal.returns-in-Before
returns-in-Before c =
    sym (ap is_first c.in-Before.is)
    ∙ before_is c.self.inside.dag.now c.args.self.now c.args.x c.args.y c.word.result c.self.view_is c.word.ensures

pub returns-in_default : goal.returns-in_default
returns-in_default c =
    sym (not_first c.word.result c.in_default.not-Before)
    ∙ before_is c.self.inside.dag.now c.args.self.now c.args.x c.args.y c.word.result c.self.view_is c.word.ensures
