use Rattle.sp_tests_views.specs.Summing.{IsSummed}
use Rattle.sp_tests_views.proofs.summed.is_right.Given as goal

abbrev pub invariant-loop-b : goal.invariant-loop-b
invariant-loop-b l = IsSummed l.based.dag l.summed.pool l.summed.view l.summed.sums
