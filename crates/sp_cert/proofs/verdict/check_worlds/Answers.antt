use Rattle.sp_cert.proofs.Causes.{first_whole, have_blocks}
use Rattle.sp_cert.proofs.verdict.check_worlds.Goals as goal

pub check_votes-requires-clause-numbers : goal.check_votes-requires-clause-numbers
check_votes-requires-clause-numbers c = have_blocks c.args.dag.now c.args.worlds.now c.args.x c.args.y c.in_ok-check_numbers.ensures.ok

pub check_sum-requires-clause-whole : goal.check_sum-requires-clause-whole
check_sum-requires-clause-whole c = first_whole c.args.dag.now c.args.worlds.now c.args.x c.args.y c.in_ok-check_numbers.ensures.ok
