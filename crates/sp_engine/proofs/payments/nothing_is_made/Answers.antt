use Rattle.sp_engine.proofs.Granted.{all_granted}
use Rattle.sp_engine.proofs.payments.nothing_is_made.Goals as goal

pub returns : goal.returns
returns c = λ profile kept others genesis locks h first plain apart.
    all_granted profile kept h plain genesis others locks (c.kept_blocks_are_a_graph.ensures profile kept h) first apart
