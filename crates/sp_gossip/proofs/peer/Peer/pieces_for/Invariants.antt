use Rattle.sp_gossip.proofs.Peers.{AreToCome}
use Rattle.sp_gossip.proofs.peer.Peer.pieces_for.Given as goal

abbrev pub invariant-ids : goal.invariant-ids
invariant-ids l = AreToCome l.receiver.bits l.receiver.kept l.self.kept l.ids l.list.items l.id-index
