use Rattle.sp_tests_views.specs.Voting.{IsBased}
use Rattle.sp_tests_views.proofs.summed.grown.Given as goal

abbrev pub invariant-loop-parent : goal.invariant-loop-parent
invariant-loop-parent l = IsBased l.based.dag l.based.frozen
