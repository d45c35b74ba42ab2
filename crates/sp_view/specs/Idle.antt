-- Pairs on which a block that joins a set has no vote, so that all votes on them stay, and where such pairs are passed over.
use Rattle.std.specs.Prelude.{ℕ, Bool, true, false, ◌≡◌, ◌⊎◌, ◌<◌, ◌≤◌, ◌&&◌, not, List, length, pos, slice_get, Some}
use Rattle.sp_model.specs.Graph.{Graph, has, in_past}
use Rattle.sp_model.specs.Loose.{in_bar}
use Rattle.sp_model.specs.Votes.{vote}
use Rattle.sp_dag.specs.Numbered.{Numbered, graph_of, pairs_of}
use Rattle.sp_view.specs.Changed.{is_inside}

-- the pair isn't inside the set that the block joined, or it was inside the set before and the block votes for neither
abbrev pub IsIdle : Graph → ℕ → List ℕ → List ℕ → ℕ → ℕ → Type 0
IsIdle g b set more x y = (is_inside more (x, y) ≡ false) ⊎ ((is_inside set (x, y) ≡ true) × (vote g more b x y ≡ pos 0))

-- A pair of the block y, and where the pairs of y end; or a place behind all pairs. Of a pair it is told whether a block b has y
-- in its past, and which blocks of that past y doesn't bind.
pub record IsPlace (table : Numbered) (b pair y end : ℕ) (above : Bool) (free : List ℕ) : Type 0 where
  pub within : pair < length (pairs_of table) → (pair < end) × (y < length table.parents)
  pub ends : end ≤ length (pairs_of table)
  pub low : (i x z : ℕ) → slice_get (pairs_of table) i ≡ Some (x, z) → pair ≤ i → y ≤ z
  pub behind : (i x z : ℕ) → slice_get (pairs_of table) i ≡ Some (x, z) → end ≤ i → y < z
  pub from : (i x z : ℕ) → slice_get (pairs_of table) i ≡ Some (x, z) → y < z → end ≤ i
  pub above_is : pair < length (pairs_of table) → above ≡ in_past (graph_of table) y b
  pub free_is : pair < length (pairs_of table) → (z : ℕ) → has free z ≡ (in_past (graph_of table) z b && not (in_bar (graph_of table) y z))
