use Rattle.std.proofs.Common.{◌≡◌, ◌<◌, ◌≤◌, ◌+◌, ℕ, Some, false}
use Rattle.std.specs.Prelude.{slice_get}
use Rattle.sp_dag.specs.Numbered.{pairs_of}
use Rattle.sp_view.specs.Changed.{is_inside}
use Rattle.sp_view.proofs.last_pair.end_in.Given as goal

abbrev pub invariant-pairs : goal.invariant-pairs
invariant-pairs l = record {
  none : (i x y : ℕ) → l.stop ≤ i + l.gone → i < l.stop → slice_get (pairs_of l.dag) i ≡ Some (x, y) → is_inside l.set (x, y) ≡ false;
}
