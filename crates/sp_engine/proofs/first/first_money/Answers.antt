use Rattle.sp_engine.proofs.Alone.{are_of_alone}
use Rattle.sp_engine.proofs.first.first_money.Goals as goal

pub first_accepted-requires-clause-of : goal.first_accepted-requires-clause-of
first_accepted-requires-clause-of c =
    are_of_alone c.args.dag.now c.in_ok-carriers.carriers c.args.txs.now c.requires.alone c.len-blocks.ensures.numbered c.in_ok-carriers.ensures.first
