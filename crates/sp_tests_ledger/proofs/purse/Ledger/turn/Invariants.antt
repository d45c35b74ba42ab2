use Rattle.sp_money.specs.Held.{IsOf}
use Rattle.sp_tests_ledger.proofs.purse.Ledger.turn.Given as goal

abbrev pub invariant-each_block : goal.invariant-each_block
invariant-each_block l = IsOf l.self.carriers.txs l.self.purse
