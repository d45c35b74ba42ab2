use Rattle.std.proofs.Common.{◌≡◌, ◌≢◌, ◌<◌, ℕ, Some}
use Rattle.std.specs.Prelude.{ℤ, All, Contains, slice_get}
use Rattle.sp_model.specs.Votes.{sgn}
use Rattle.sp_view.specs.Summed.{HasTurned}
use Rattle.sp_view.proofs.sums.turned_of.Given as goal

abbrev pub invariant-pairs : goal.invariant-pairs
invariant-pairs l = record {
  within : All (λ i. i < l.count) l.list.items;
  turned : (i : ℕ) (a b : ℤ) → i < l.pair → slice_get l.older i ≡ Some a → slice_get l.newer i ≡ Some b → sgn a ≢ sgn b → Contains l.list.items i;
  only : (i : ℕ) → Contains l.list.items i → HasTurned (slice_get l.older i) (slice_get l.newer i);
}
