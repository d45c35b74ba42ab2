use Rattle.sp_feed.proofs.FrameRuns.{frame_by_frame}
use Rattle.sp_feed.proofs.laws.frame_by_frame.Goals as goal

pub returns : goal.returns
returns c = frame_by_frame
