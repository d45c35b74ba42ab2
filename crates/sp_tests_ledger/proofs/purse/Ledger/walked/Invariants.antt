use Rattle.sp_money.specs.Held.{IsOf}
use Rattle.sp_tests_ledger.proofs.purse.Ledger.walked.Given as goal

abbrev pub invariant-steps : goal.invariant-steps
invariant-steps l = IsOf l.self.carriers.txs l.self.purse
