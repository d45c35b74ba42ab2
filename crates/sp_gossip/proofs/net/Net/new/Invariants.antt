use Rattle.std.proofs.Common.{◌≡◌, [], ◌∷◌}
use Rattle.std.specs.Prelude.{replicate}
use Rattle.sp_gossip.specs.Peer.{Keeper}
use Rattle.sp_gossip.proofs.net.Net.new.Given as goal

abbrev pub invariant-peers : goal.invariant-peers
invariant-peers l = l.peers.items ≡ replicate l.counter (let peer : Keeper = record { profile = l.profile; bits = l.bits; kept = l.genesis ∷ [] } in peer)
