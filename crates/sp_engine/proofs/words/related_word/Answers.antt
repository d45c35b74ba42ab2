use Rattle.std.proofs.Common.{◌∙◌, sym}
use Rattle.sp_engine.proofs.Asked.{ancestor_first, ancestor_second}
use Rattle.sp_engine.proofs.words.related_word.Goals as goal

pub returns-then-in_past : goal.returns-then-in_past
returns-then-in_past c = ancestor_first c.args.dag.now c.len-blocks.ensures.numbered.order c.args.x c.args.y c.requires.x_in c.requires.y_in (sym c.in_past.ensures ∙ c.if-in_past.true)

pub returns-else-in_past : goal.returns-else-in_past
returns-else-in_past c =
    ancestor_second c.args.dag.now c.len-blocks.ensures.numbered.order c.args.x c.args.y c.requires.x_in c.requires.y_in c.requires.other c.requires.related (sym c.in_past.ensures ∙ c.if-in_past.false)
