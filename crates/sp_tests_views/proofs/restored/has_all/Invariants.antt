use Rattle.std.proofs.Common.{ℕ, ◌<◌}
use Rattle.std.specs.Prelude.{IsSome}
use Rattle.sp_view.specs.Views.{entry_at}
use Rattle.sp_tests_views.proofs.restored.has_all.Given as goal

abbrev pub invariant-loop-pair : goal.invariant-loop-pair
invariant-loop-pair l = (i : ℕ) → i < l.pair → IsSome (entry_at l.view.entries i)
