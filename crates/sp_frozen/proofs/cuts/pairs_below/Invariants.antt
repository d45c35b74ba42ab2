use Rattle.std.proofs.Common.{◌≡◌, ◌<◌, ◌≤◌, ℕ, Some}
use Rattle.std.specs.Prelude.{slice_get}
use Rattle.sp_dag.specs.Numbered.{pairs_of}
use Rattle.sp_frozen.proofs.cuts.pairs_below.Given as goal

abbrev pub invariant-pairs : goal.invariant-pairs
invariant-pairs l =
    (l.left ≤ l.initial.pairs)
    × ((i : ℕ) (pair : ℕ × ℕ) → l.left ≤ i → i < l.initial.pairs → slice_get (pairs_of l.dag) i ≡ Some pair → l.count ≤ pair.1)

abbrev pub decreases-pairs : goal.decreases-pairs
decreases-pairs l = l.left
