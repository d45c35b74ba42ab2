use Rattle.std.proofs.Common.{◌≡◌, ◌<◌, ℕ, Some}
use Rattle.std.specs.Prelude.{Contains, slice_get}
use Rattle.sp_dag.specs.Numbered.{pairs_of}
use Rattle.sp_engine.proofs.changes.pairs_at.Given as goal

abbrev pub invariant-numbers : goal.invariant-numbers
invariant-numbers l = (j i : ℕ) (pair : ℕ × ℕ) → j < l.i-index → slice_get l.numbers j ≡ Some i → slice_get (pairs_of l.dag) i ≡ Some pair → Contains l.pairs.items pair
