use Rattle.std.proofs.Common.{◌≡◌, ℕ, List, drop}
use Rattle.sp_gossip.specs.Pieces.{StandForAll}
use Rattle.sp_gossip.proofs.Known.{StillArrive}
use Rattle.sp_gossip.proofs.peer.Peer.take_all.Given as goal

abbrev pub invariant-pieces : goal.invariant-pieces
invariant-pieces l = record {
  goes : (arrivals : List (List ℕ)) → StandForAll l.fn.self.bits l.fn.self.kept l.pieces arrivals
      → StillArrive l.fn.self.bits l.fn.self.kept l.self.kept (drop l.piece-index l.pieces) arrivals l.answers.items;
  profile : l.self.profile ≡ l.fn.self.profile;
  bits : l.self.bits ≡ l.fn.self.bits;
}
