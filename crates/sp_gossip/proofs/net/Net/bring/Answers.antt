use Rattle.std.proofs.Common.{◌≡◌, ◌<◌, length, arith}
use Rattle.sp_gossip.specs.Nodes.{HasTerms}
use Rattle.sp_gossip.proofs.Taking.{peer_count, peer_terms, pieces_brought}
use Rattle.sp_gossip.proofs.net.Net.bring.Goals as goal

pub returns-in-Ok-clause-taken : goal.returns-in-Ok-clause-taken
returns-in-Ok-clause-taken c =
    let many : length c.self.inside.peers.items ≡ length c.args.self.now.kept =
    peer_count c.self.inside.profile c.self.inside.bits c.self.inside.peers.items c.self.inside.packets.items c.self.inside.makes c.self.inside.live c.args.self.now c.self.view_is in
    let lt : c.args.node < length c.self.inside.peers.items = omega (arith, many, c.requires.within) in
    let terms : HasTerms c.self.inside.profile c.self.inside.bits c.index_mut.result.now = peer_terms c.self.inside.profile c.self.inside.bits c.self.inside.peers.items c.args.node c.index_mut.result.now c.self.invariant.terms lt c.index_mut.ensures.value in
    pieces_brought c.self.inside.profile c.self.inside.bits c.self.inside.peers.items c.self.inside.packets.items c.self.inside.makes c.self.inside.live c.args.node c.index_mut.result.now c.take_all.new.self
    c.args.pieces.now c.in-Ok.answers.items c.of.result c.args.self.now c.self.view_is lt c.index_mut.ensures.value terms.bits_are c.in-Ok.ensures.taken c.of.ensures
