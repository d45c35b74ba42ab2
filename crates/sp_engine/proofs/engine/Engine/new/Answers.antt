use Rattle.sp_engine.proofs.Alone.{carried_in_alone, engine_alone}
use Rattle.sp_engine.proofs.CarriedBlocks.{few_txs}
use Rattle.sp_engine.proofs.engine.Engine.new.Goals as goal

pub first_of-requires : goal.first_of-requires
first_of-requires c = few_txs _ c.genesis.invariant

pub of-requires-clause-engine : goal.of-requires-clause-engine
of-requires-clause-engine c =
    engine_alone c.args.profile c.args.bits _ c.args.genesis c.in_ok-pool.pool c.in_ok-first.first.dag c.in_ok-first.first.decided.votes c.requires.bits c.genesis.view_is c.genesis.invariant c.requires.genesis
    c.in_ok-pool.ensures.kept c.in_ok-pool.ensures.present c.in_ok-first.ensures.dag c.kept-kept.ensures.blocks c.in_ok-first.ensures.numbered c.in_ok-first.ensures.voted c.in_ok-first.ensures.few

pub of-requires-clause-accepting : goal.of-requires-clause-accepting
of-requires-clause-accepting c = record {
  carriers = carried_in_alone c.args.profile _ c.args.genesis c.in_ok-pool.pool c.in_ok-first.first.dag c.in_ok-first.first.decided.money.carriers c.genesis.view_is c.in_ok-pool.ensures.kept c.in_ok-first.ensures.dag
      c.in_ok-first.ensures.numbered c.in_ok-first.ensures.carriers c.in_ok-first.ensures.carried;
  right = c.in_ok-first.ensures.right;
  all = c.in_ok-first.ensures.all;
}
