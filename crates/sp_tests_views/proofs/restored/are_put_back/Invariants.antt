use Rattle.sp_tests_views.specs.Keeping.{IsKept}
use Rattle.sp_tests_views.proofs.restored.are_put_back.Given as goal

abbrev pub invariant-loop-parent : goal.invariant-loop-parent
invariant-loop-parent l =
    IsKept l.kept.based.dag l.kept.based.frozen l.kept.pool l.kept.view l.kept.sums l.kept.members l.kept.saved l.kept.older
