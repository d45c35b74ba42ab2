use Rattle.sp_feed.proofs.Gives.{gives_head}
use Rattle.sp_feed.proofs.frame.first_head.Goals as goal

pub returns-clause-gives : goal.returns-clause-gives
returns-clause-gives g c = gives_head c.requires.start c.read_head.ensures.reads
