use Rattle.std.proofs.Common.{take}
use Rattle.sp_gossip.specs.Named.{AreNumbered}
use Rattle.sp_gossip.proofs.made_blocks.MadeBlocks.of.Given as goal

abbrev pub invariant-blocks-2 : goal.invariant-blocks-2
invariant-blocks-2 l = AreNumbered l.numbers (take l.number l.list)
