-- The blocks around a block, as rows, by what a rival in them does to its carriers.
use Rattle.std.specs.Prelude.{ℕ, ◌≡◌, ◌<◌, ◌==◌, ◌&&◌, ◌||◌, not, Bool, IsTrue, List, length}
use Rattle.sp_model.specs.Graph.{has}
use Rattle.sp_dag.specs.Numbered.{Numbered}
use Rattle.sp_accept.specs.Standing.{is_before, is_below}

-- w is unrelated to z, and the votes don't put z before it
abbrev pub is_unbeaten : Numbered → ℕ → ℕ → Bool
is_unbeaten table z w = not (is_below table w z) && (not ((w == z) || is_below table z w) && not (is_before table z w))

-- Of the blocks in which some carriers have rivals, `beaten` has those that aren't so, where a rival doesn't stand in the way
-- from beside; and `safe` has those of them that aren't in the past of z either, where a rival doesn't stand in the way at all
pub record IsAround (table : Numbered) (z : ℕ) (rivals beaten safe : List ℕ) : Type 0 where
  pub beaten_are : (w : ℕ) → w < length table.parents → IsTrue (has rivals w) → has beaten w ≡ not (is_unbeaten table z w)
  pub safe_are : (w : ℕ) → w < length table.parents → IsTrue (has rivals w) → has safe w ≡ (not (is_unbeaten table z w) && not (is_below table w z))
