-- The entries of a view that is derived, so far, for the contracts of private functions alone.
use Rattle.std.specs.Prelude.{ℕ, ◌+◌, ◌-◌, ◌*◌, ◌^◌, ◌<◌, ◌≤◌, ◌≡◌, false, List, length, Option, Some, slice_get, take}
use Rattle.sp_dag.specs.Numbered.{Numbered, graph_of, pairs_below, pairs_of}
use Rattle.sp_rows.specs.Pool.{Pool}
use Rattle.sp_view.specs.Changed.{is_inside}
use Rattle.sp_view.specs.Moving.{moved_rows}
use Rattle.sp_view.specs.Stored.{count_of, row_of, live}
use Rattle.sp_view.specs.Views.{entry_at, held, AreEntries, IsEntry, IsOnce, KeepIds}

-- the entries that others are derived from, in a pool that has room for these
pub record IsBase (table : Numbered) (set : List ℕ) (pool : Pool) (entries : List (Option (ℕ × ℕ))) : Type 0 where
  pub entry : AreEntries table set pool entries
  pub counted : (r : ℕ) → held entries r ≤ count_of pool r
  pub once : (r : ℕ) → held entries r ≤ 1
  pub few : (r : ℕ) → 0 < held entries r → count_of pool r < 2 ^ 32 - 1
  pub room : live pool < 2 ^ 29

-- the first entries of the larger set, and what became of the pool since there were none
pub record AreSoFar (table : Numbered) (from target : List ℕ) (base : List (Option (ℕ × ℕ))) (before pool : Pool) (entries : List (Option (ℕ × ℕ))) : Type 0 where
  pub based : IsBase table from before base
  pub entry : (j x y : ℕ) → j < length entries → slice_get (pairs_of table) j ≡ Some (x, y) → IsEntry (graph_of table) target x y pool (entry_at entries j)
  pub kept : (j x y : ℕ) → j < length entries → slice_get (pairs_of table) j ≡ Some (x, y) → KeepIds (graph_of table) from target x y (entry_at base j) (entry_at entries j)
  pub counts : (r : ℕ) → count_of pool r ≡ count_of before r + held entries r
  pub others : (r : ℕ) → 0 < count_of before r → row_of pool r ≡ row_of before r
  pub once : (r : ℕ) → IsOnce (count_of before r) (held (take (length entries) base) r) (held entries r)
  pub few : live pool ≤ live before + 2 * length entries
  pub moved : live pool ≤ live before + moved_rows (graph_of table) from target (take (length entries) (pairs_of table))

-- how many entries there are where the blocks below y are done: none of the pairs of these behind them is inside the set
pub record AreBelow (table : Numbered) (set : List ℕ) (end y n : ℕ) : Type 0 where
  pub ends : n ≤ end
  pub low : n ≤ length (pairs_below (graph_of table) y)
  pub none : (i x z : ℕ) → n ≤ i → slice_get (pairs_of table) i ≡ Some (x, z) → z < y → is_inside set (x, z) ≡ false
