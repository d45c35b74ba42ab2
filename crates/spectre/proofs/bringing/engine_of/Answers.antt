use Rattle.std.proofs.Common.{◌∙◌, ap, subst}
use Rattle.sp_block.specs.Block.{IsBlock, ReadBlock}
use Rattle.sp_feed.specs.Genesis.{IsHead, ReadHead}
use Rattle.sp_node.proofs.Restarted.{genesis_in}
use Rattle.spectre.proofs.bringing.engine_of.Goals as goal

pub returns-clause-genesis : goal.returns-clause-genesis
returns-clause-genesis c =
    genesis_in c.args.head.genesis (subst (λ (b : ReadBlock). IsBlock b) (c.genesis.view_is ∙ ap (λ (h : ReadHead). h.genesis) c.head.view_is) c.genesis.invariant) (subst (λ (h : ReadHead). IsHead h) c.head.view_is c.head.invariant).genesis
