use Rattle.std.proofs.Common.{◌≡◌, ◌<◌, ◌≤◌, ℕ, Some, false}
use Rattle.std.specs.Prelude.{slice_get}
use Rattle.sp_dag.specs.Numbered.{pairs_of}
use Rattle.sp_model.specs.Graph.{has}
use Rattle.sp_view.proofs.runs.member_from.Given as goal

abbrev pub invariant-pairs : goal.invariant-pairs
invariant-pairs l = record {
  start : l.pair ≤ l.i;
  out : (j x z : ℕ) → slice_get (pairs_of l.dag) j ≡ Some (x, z) → l.pair ≤ j → j < l.i → has l.members x ≡ false;
}
