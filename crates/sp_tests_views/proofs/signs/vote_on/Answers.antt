use Rattle.std.proofs.Common.{◌<◌, ℕ, Option, length, subst}
use Rattle.std.specs.Prelude.{IfSome}
use Rattle.sp_tests_views.proofs.Pasts.{can_listed}
use Rattle.sp_tests_views.proofs.signs.vote_on.Goals as goal

pub virtual_vote-requires-clause-listed : goal.virtual_vote-requires-clause-listed
virtual_vote-requires-clause-listed c =
    subst (λ (o : Option (ℕ × ℕ)). IfSome o (λ _. c.args.pair < length c.args.frozen.now.pluses)) c.in-Some.ensures.some
    (can_listed c.args.dag.now c.args.frozen.now c.args.pool.now c.args.view.now c.requires c.args.pair)
