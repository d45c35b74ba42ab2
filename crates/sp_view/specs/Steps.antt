-- What becomes of the rows of one pair, and of the pool, when a block joins a set. For the contracts of private functions alone.
use Rattle.std.specs.Prelude.{ℕ, true, ◌≡◌, ◌≢◌, ◌+◌, ◌<◌, ◌≤◌, ◌==◌, List, Option, Some, if◌then◌else◌, slice_get}
use Rattle.sp_bits.specs.Places.{difference}
use Rattle.sp_dag.specs.Numbered.{Numbered, graph_of, pairs_of}
use Rattle.sp_model.specs.Graph.{has}
use Rattle.sp_rows.specs.Pool.{Pool}
use Rattle.sp_view.specs.Changed.{is_inside}
use Rattle.sp_view.specs.Moving.{changes_of}
use Rattle.sp_view.specs.Settled.{AreKept, AreOpen, AreSides}
use Rattle.sp_view.specs.Stored.{count_of, live, row_of, spare}
use Rattle.sp_view.specs.Views.{holds, moved_of, IsOnce, KeepIds}

-- one holder of a row holds another one in its place: the same, or one that wasn't live
pub record IsWritten (before after : Pool) (id id' : ℕ) : Type 0 where
  pub counts : (r : ℕ) → count_of after r + (if r == id then 1 else 0) ≡ count_of before r + (if r == id' then 1 else 0)
  pub others : (r : ℕ) → 0 < count_of before r → (r ≡ id → 1 < count_of before r) → row_of after r ≡ row_of before r
  pub fresh : id' ≢ id → count_of before id' ≡ 0
  pub alive : (r : ℕ) → 0 < count_of before r → 0 < count_of after r
  pub spare : spare before ≤ spare after + (if id' == id then 0 else 1)
  pub live : live after ≤ live before + (if id' == id then 0 else 1)

-- an entry stands in the place of another one, and rows that are held beyond that one keep their places
pub record IsStep (before after : Pool) (entry entry' : Option (ℕ × ℕ)) : Type 0 where
  pub counts : (r : ℕ) → count_of after r + holds entry r ≡ count_of before r + holds entry' r
  pub others : (r : ℕ) → holds entry r < count_of before r → row_of after r ≡ row_of before r
  pub alive : (r : ℕ) → 0 < count_of before r → 0 < count_of after r
  pub once : (r : ℕ) → IsOnce (count_of before r) (holds entry r) (holds entry' r)
  pub spare : spare before ≤ spare after + moved_of entry entry'
  pub live : live after ≤ live before + moved_of entry entry'

-- the rows of a pair inside a set, where there is room for those that are others in a larger set
pub record IsOld (table : Numbered) (set more : List ℕ) (pair : ℕ) (pool : Pool) (entry : ℕ × ℕ) : Type 0 where
  pub counted : (r : ℕ) → holds (Some entry) r ≤ count_of pool r
  pub inside : (x y : ℕ) → slice_get (pairs_of table) pair ≡ Some (x, y) → is_inside set (x, y) ≡ true
  pub sides : (x y : ℕ) → slice_get (pairs_of table) pair ≡ Some (x, y) → AreSides (graph_of table) set x y (row_of pool entry.0) (row_of pool entry.1)
  pub room : (x y : ℕ) → slice_get (pairs_of table) pair ≡ Some (x, y) → changes_of (graph_of table) set more x y ≤ spare pool

-- in the larger set the votes of `todo` are open on the pair, and all others are as these rows say
pub record AreAnew (table : Numbered) (more : List ℕ) (pair : ℕ) (pool : Pool) (entry : ℕ × ℕ) (todo : List ℕ) : Type 0 where
  pub within : (z : ℕ) → has todo z ≡ true → has more z ≡ true
  pub opened : (x y : ℕ) → slice_get (pairs_of table) pair ≡ Some (x, y) → AreOpen (graph_of table) more x y (has todo)
  pub kept : (x y : ℕ) → slice_get (pairs_of table) pair ≡ Some (x, y)
      → AreKept (graph_of table) more x y (has todo) (difference (row_of pool entry.0) todo) (difference (row_of pool entry.1) todo)

-- the rows of the pair in the larger set, each of which has its name from before where it has its places from before
pub record IsNew (table : Numbered) (set more : List ℕ) (pair : ℕ) (pool : Pool) (entry entry' : ℕ × ℕ) : Type 0 where
  pub sides : (x y : ℕ) → slice_get (pairs_of table) pair ≡ Some (x, y) → AreSides (graph_of table) more x y (row_of pool entry'.0) (row_of pool entry'.1)
  pub kept : (x y : ℕ) → slice_get (pairs_of table) pair ≡ Some (x, y) → KeepIds (graph_of table) set more x y (Some entry) (Some entry')
