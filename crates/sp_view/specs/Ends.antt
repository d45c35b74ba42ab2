-- Where the pairs inside a set end. Behind that a view has no entries.
use Rattle.std.specs.Prelude.{ℕ, true, false, ◌≡◌, ◌≤◌, ◌+◌, List, length, Some, slice_get}
use Rattle.sp_dag.specs.Numbered.{Numbered, pairs_of}
use Rattle.sp_view.specs.Changed.{is_inside}

-- no pair from this number on is inside a set
abbrev pub NoneFrom : Numbered → List ℕ → ℕ → Type 0
NoneFrom table set end = (i x y : ℕ) → end ≤ i → slice_get (pairs_of table) i ≡ Some (x, y) → is_inside set (x, y) ≡ false

-- where the pairs inside a set end, if at a number or behind it: behind the last one of these, or at that number
pub record IsEnd (table : Numbered) (set : List ℕ) (least end : ℕ) : Type 0 where
  pub from : least ≤ end
  pub within : end ≤ length (pairs_of table)
  pub none : NoneFrom table set end
  pub last : (i x y : ℕ) → least ≤ i → i + 1 ≡ end → slice_get (pairs_of table) i ≡ Some (x, y) → is_inside set (x, y) ≡ true
