-- The faults of a feed's head and of a node, as those of answering a feed.
use Rattle.sp_feed.specs.declared.fault.HeadFault.{HeadFault}
use Rattle.sp_feed.specs.declared.fault.HeadFault.TheVariants as heads
use Rattle.sp_node.specs.declared.fault.NodeFault.{NodeFault}
use Rattle.sp_node.specs.declared.fault.NodeFault.TheVariants as nodes
use Rattle.spectre.specs.declared.ending.Stop.{Stop}
use Rattle.spectre.specs.declared.ending.Stop.TheVariants as stops
use Rattle.spectre.specs.declared.replay.ReplayFault.{ReplayFault}
use Rattle.spectre.specs.declared.replay.ReplayFault.TheVariants as replays

abbrev pub as_replay : HeadFault → ReplayFault
as_replay (heads.Feed fault) = replays.Feed fault
as_replay heads.Memory = replays.Memory

abbrev pub of_node : NodeFault → ReplayFault
of_node nodes.WriteFault = replays.WriteFault
of_node nodes.DiskFault = replays.DiskFault
of_node nodes.Memory = replays.Memory

abbrev pub of_stop : Stop → ReplayFault
of_stop stops.WriteFault = replays.WriteFault
of_stop stops.Memory = replays.Memory
