use Rattle.sp_feed.proofs.WrittenFeeds.{written_is_read}
use Rattle.sp_feed.proofs.laws.written_is_read.Goals as goal

pub returns : goal.returns
returns c = written_is_read
