-- Where each pair stands in the list of pairs, for the contracts of private functions alone.
use Rattle.std.specs.Prelude.{ℕ, ◌≡◌, ◌<◌, ◌≤◌, true, List, [], length, Option, Some, None, slice_get, slice_index_or}
use Rattle.sp_bits.specs.Places.{has}

-- what a table says of two numbers, the lower one first
abbrev pub index_at : List (List (Option ℕ)) → ℕ → ℕ → Option ℕ
index_at indices x y = slice_index_or (slice_index_or indices y []) x None

-- a table has the index of each pair, and no others
pub record AreIndexed (pairs : List (ℕ × ℕ)) (indices : List (List (Option ℕ))) : Type 0 where
  pub there : (i x y : ℕ) → slice_get pairs i ≡ Some (x, y) → index_at indices x y ≡ Some i
  pub back : (i x y : ℕ) → index_at indices x y ≡ Some i → slice_get pairs i ≡ Some (x, y)

-- the row of a new block has the index of each pair behind those from before, and none at a number
-- below `end` that is in its past
pub record AreNewIndexed (before pairs : List (ℕ × ℕ)) (past : List ℕ) (number end : ℕ) (row : List (Option ℕ)) : Type 0 where
  pub long : length row ≡ end
  pub there : (i x y : ℕ) → length before ≤ i → slice_get pairs i ≡ Some (x, y) → (y ≡ number) × (slice_index_or row x None ≡ Some i)
  pub back : (i x : ℕ) → slice_index_or row x None ≡ Some i → slice_get pairs i ≡ Some (x, number)
  pub none : (x : ℕ) → x < end → slice_index_or row x None ≡ None → has past x ≡ true
