use Rattle.std.proofs.Common.{◌≡◌, ◌≤◌, ◌+◌, ℕ, Some, false}
use Rattle.std.specs.Prelude.{slice_get}
use Rattle.sp_dag.specs.Numbered.{pairs_of}
use Rattle.sp_view.specs.Changed.{is_inside}
use Rattle.sp_view.proofs.last_pair.end_of.Given as goal

abbrev pub invariant-runs : goal.invariant-runs
invariant-runs l = record {
  none : (i x y : ℕ) → l.least ≤ i → l.count ≤ y + l.gone → slice_get (pairs_of l.dag) i ≡ Some (x, y) → is_inside l.set (x, y) ≡ false;
}
