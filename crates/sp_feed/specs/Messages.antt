-- What a message says.
use Rattle.std.specs.Prelude.{Option, Some, None}
use Rattle.sp_feed.specs.declared.message.Message.{Message}
use Rattle.sp_feed.specs.declared.message.Message.TheVariants.{Block, Vote, Tx, Balance, Pairs, Report, End}
use Rattle.sp_feed.specs.Kinds.{Said, SaysBlock, SaysVote, SaysTx, SaysBalance, SaysPairs, SaysReport}

-- nothing where it is the end
abbrev pub said_by : Message → Option Said
said_by (Block bytes) = Some (SaysBlock bytes.now)
said_by (Vote x y) = Some (SaysVote x y)
said_by (Tx tx) = Some (SaysTx tx)
said_by (Balance lock) = Some (SaysBalance lock)
said_by Pairs = Some SaysPairs
said_by Report = Some SaysReport
said_by End = None
