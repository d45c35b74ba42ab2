use Rattle.sp_tests_ledger.proofs.Differing.{told}
use Rattle.sp_tests_ledger.proofs.changes.changed.Goals as goal

pub returns-clause-told : goal.returns-clause-told
returns-clause-told c = told c.args.plain.now c.args.count c.in_ok-pairs.pairs.items c.in_ok-before.before c.args.votes.now c.requires.few c.in_ok-before.ensures.votes c.requires.votes c.in_ok-pairs.ensures
