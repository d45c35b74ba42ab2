use Rattle.sp_tests_views.proofs.Pasts.{can_listed}
use Rattle.sp_tests_views.proofs.signs.past_votes.Goals as goal

pub past_votes-requires-clause-listed : goal.past_votes-requires-clause-listed
past_votes-requires-clause-listed c = can_listed c.args.dag.now c.args.frozen.now c.args.pool.now c.args.view.now c.requires
