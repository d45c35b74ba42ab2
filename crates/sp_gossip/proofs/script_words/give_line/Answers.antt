use Rattle.sp_gossip.proofs.Spelled.{names_none}
use Rattle.sp_gossip.proofs.script_words.give_line.Goals as goal

pub returns-in-None : goal.returns-in-None
returns-in-None c =
    names_none c.args.nodes c.args.blocks.now c.args.words.now c.in_ok-node.node c.at.result.now c.named.result c.in_ok-node.ensures.value c.at.ensures.word c.named.ensures.number c.in-None.is
