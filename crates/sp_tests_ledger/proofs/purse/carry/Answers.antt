use Rattle.sp_engine.proofs.Paying.{block_goes}
use Rattle.sp_tests_ledger.proofs.purse.carry.Goals as goal

pub returns : goal.returns
returns c = block_goes c.args.dag.now c.args.carriers.now c.add.new.self c.args.txs.now c.in_ok-add.ensures.ok
