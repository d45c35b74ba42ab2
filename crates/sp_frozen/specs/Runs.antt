-- The last block's votes, cast up to a pair, for the contracts of private functions alone.
use Rattle.std.specs.Prelude.{ℕ, ◌+◌, ◌<◌, ◌≡◌, nat_lt, if◌then◌else◌, List, [], ℤ, Some, drop, length, slice_get, slice_index_or}
use Rattle.sp_dag.specs.Numbered.{Numbered, graph_of, pairs_of}
use Rattle.sp_model.specs.Graph.{past}
use Rattle.sp_frozen.specs.PastVotes.{signs_from}
use Rattle.sp_frozen.specs.Voters.{AreFrozenBelow}

-- the rows of the pairs before one have the votes of block b too, and the others those of the blocks before it
abbrev pub AreCastTo : Numbered → ℕ → ℕ → List (List ℕ) → List (List ℕ) → Type 0
AreCastTo table b pair pluses minuses =
    (j x y : ℕ) → slice_get (pairs_of table) j ≡ Some (x, y) → j < length pluses
    → AreFrozenBelow (graph_of table) (if nat_lt j pair then b + 1 else b) x y (slice_index_or pluses j []) (slice_index_or minuses j [])

-- from a place on, the list has the votes of the past of b on the pairs from one on
abbrev pub AreRest : Numbered → ℕ → ℕ → ℕ → List (ℕ × ℤ) → Type 0
AreRest table b pair place votes =
    drop place votes ≡ signs_from (graph_of table) (past (graph_of table) b) pair (drop pair (pairs_of table))
