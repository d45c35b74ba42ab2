-- A set of blocks, and the same with one block more.
use Rattle.std.specs.Prelude.{ℕ, true, false, ◌≡◌, ◌≢◌, List}
use Rattle.sp_model.specs.Graph.{Graph, AreDistinct, IsDownset, has}

-- `more` is a downset that has the members of the downset `set` and the block b, which isn't one of them
pub record Joins (g : Graph) (b : ℕ) (set more : List ℕ) : Type 0 where
  pub down : IsDownset g set
  pub more_down : IsDownset g more
  pub distinct : AreDistinct set
  pub more_distinct : AreDistinct more
  pub new : has set b ≡ false
  pub there : has more b ≡ true
  pub into : (z : ℕ) → has set z ≡ true → has more z ≡ true
  pub from : (z : ℕ) → has more z ≡ true → z ≢ b → has set z ≡ true
