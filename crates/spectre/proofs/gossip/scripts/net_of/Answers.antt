use Rattle.std.proofs.Common.{◌≡◌, ◌∙◌, IfOk, ap, subst}
use Rattle.sp_block.specs.Block.{IsBlock, ReadBlock}
use Rattle.sp_feed.specs.Genesis.{IsHead, ReadHead}
use Rattle.sp_node.proofs.Restarted.{genesis_in}
use Rattle.spectre.specs.Gossips.{nodes_on}
use Rattle.spectre.proofs.Gossiping.{first_of}
use Rattle.spectre.proofs.gossip.scripts.net_of.Goals as goal

pub returns-clause-net : goal.returns-clause-net
returns-clause-net c =
    subst (λ (h : ReadHead). IfOk c.new.result (λ net. net ≡ nodes_on h.profile h.bits h.genesis c.args.nodes)) c.head.view_is
    (first_of c.new.result c.head.inside.profile c.head.inside.bits c.head.inside.genesis c.args.nodes c.new.ensures.state c.new.ensures.makes c.new.ensures.live)

pub returns-clause-genesis : goal.returns-clause-genesis
returns-clause-genesis c =
    genesis_in c.args.head.genesis (subst (λ (b : ReadBlock). IsBlock b) (c.genesis.view_is ∙ ap (λ (h : ReadHead). h.genesis) c.head.view_is) c.genesis.invariant) (subst (λ (h : ReadHead). IsHead h) c.head.view_is c.head.invariant).genesis
