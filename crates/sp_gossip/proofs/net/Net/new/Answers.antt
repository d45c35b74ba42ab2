use Rattle.std.proofs.Common.{◌≡◌, ℕ, ap, ◌∙◌, [], ◌∷◌, arith}
use Rattle.std.specs.Prelude.{replicate}
use Rattle.sp_gossip.specs.Peer.{Keeper}
use Rattle.sp_gossip.proofs.Taking.{first_state}
use Rattle.sp_gossip.proofs.net.Net.new.Goals as goal

pub returns-clause-state : goal.returns-clause-state
returns-clause-state c =
    let all : c.peers.counter ≡ c.args.nodes = omega arith in
    first_state c.args.nodes c.args.profile c.args.bits c.args.genesis.now c.peers.peers.items c.new-2.result.items 0
    (c.peers.invariant ∙ ap (λ (n : ℕ). replicate n (let peer : Keeper = record { profile = c.args.profile; bits = c.args.bits; kept = c.args.genesis.now ∷ [] } in peer)) all) c.new-2.ensures.items
