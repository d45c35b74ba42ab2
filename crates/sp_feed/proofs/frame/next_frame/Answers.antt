use Rattle.sp_feed.proofs.Gives.{gives_next}
use Rattle.sp_feed.proofs.frame.next_frame.Goals as goal

pub returns-clause-gives : goal.returns-clause-gives
returns-clause-gives g c = gives_next c.read_frame.ensures.reads
