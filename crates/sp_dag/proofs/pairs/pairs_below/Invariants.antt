use Rattle.std.proofs.Common.{◌≡◌, ◌≤◌, ℕ, length, Some}
use Rattle.std.specs.Prelude.{slice_get}
use Rattle.sp_dag.proofs.pairs.pairs_below.Given as goal

abbrev pub invariant-pairs : goal.invariant-pairs
invariant-pairs l =
    (l.left ≤ length l.pairs) × ((i : ℕ) (pair : ℕ × ℕ) → l.left ≤ i → slice_get l.pairs i ≡ Some pair → l.count ≤ pair.1)

abbrev pub decreases-pairs : goal.decreases-pairs
decreases-pairs l = l.left
