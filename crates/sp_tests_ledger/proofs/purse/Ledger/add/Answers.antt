use Rattle.sp_tests_ledger.proofs.Prepared.{few_flags, of_first}
use Rattle.sp_tests_ledger.proofs.purse.Ledger.add.Goals as goal

pub prepare-requires-clause-few : goal.prepare-requires-clause-few
prepare-requires-clause-few c = few_flags c.args.self.now.carriers.txs c.carry.new.carriers.txs c.args.self.now.purse c.requires c.in_ok-carry.ensures

pub prepare-requires-clause-of : goal.prepare-requires-clause-of
prepare-requires-clause-of c = of_first c.args.self.now.carriers.txs c.carry.new.carriers.txs c.args.self.now.purse c.requires c.in_ok-carry.ensures
