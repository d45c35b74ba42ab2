use Rattle.std.proofs.Common.{sym, ◌∙◌}
use Rattle.sp_play.proofs.MadeBlocks.{counted}
use Rattle.sp_play.proofs.made.count_made.Goals as goal

pub returns : goal.returns
returns c = c.made_count.ensures ∙ sym (counted c.args.entries.now)
