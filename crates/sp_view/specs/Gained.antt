-- What comes to the sum of the votes on a pair where a set becomes a larger one.
use Rattle.std.specs.Prelude.{ℕ, true, ◌≡◌, List, ℤ, ◌+ℤ◌}
use Rattle.sp_model.specs.Graph.{Graph}
use Rattle.sp_view.specs.Changed.{is_inside}
use Rattle.sp_view.specs.Sums.{sum_of}

-- the pair is inside the smaller set, and so much comes to its sum
pub record IsGain (g : Graph) (set more : List ℕ) (x y : ℕ) (gain : ℤ) : Type 0 where
  pub inside : is_inside set (x, y) ≡ true
  pub sum_is : sum_of g more x y ≡ sum_of g set x y +ℤ gain
