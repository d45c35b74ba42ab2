use Rattle.sp_tests_views.proofs.Pasts.{can_listed}
use Rattle.sp_tests_views.proofs.signs.changes.Goals as goal

pub changed-requires-clause-listed : goal.changed-requires-clause-listed
changed-requires-clause-listed c = can_listed c.args.dag.now c.args.frozen.now c.args.pool.now c.args.view.now c.requires.can
