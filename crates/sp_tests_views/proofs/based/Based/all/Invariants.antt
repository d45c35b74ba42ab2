use Rattle.sp_view.specs.Views.{IsView}
use Rattle.sp_tests_views.proofs.based.Based.all.Given as goal

abbrev pub invariant-loop-b : goal.invariant-loop-b
invariant-loop-b l = IsView l.self.dag l.view l.pool
