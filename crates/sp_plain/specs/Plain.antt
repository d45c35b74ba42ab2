-- Sets that hold the past of each member, as `plain_votes` asks. What else stands here, of votes that are found from
-- the highest member down, serves the contracts of private functions alone.
use Rattle.std.specs.Prelude.{ℕ, ◌<◌, ◌≤◌, ◌≡◌, true, List, map, slice_index_or, ℤ, pos, length}
use Rattle.std.specs.List.{range_with_len}
use Rattle.sp_model.specs.Graph.{Graph, has, in_past}
use Rattle.sp_model.specs.Votes.{vote}
use Rattle.sp_dag.specs.Numbered.{Numbered, graph_of}
use Rattle.sp_plain.specs.Virts.{past_virts, Virts}

-- each member is below n, and the set holds the past of each
pub record IsClosed (graph : Graph) (n : ℕ) (set : List ℕ) : Type 0 where
  pub below : (z : ℕ) → has set z ≡ true → z < n
  pub closed : (z a : ℕ) → has set z ≡ true → in_past graph a z ≡ true → has set a ≡ true

-- the votes on x and y of the members from a number on stand in the list
abbrev pub AreVotesFrom : Graph → List ℕ → ℕ → ℕ → ℕ → ℕ → List ℤ → Type 0
AreVotesFrom graph set n x y from votes =
    (w : ℕ) → from ≤ w → w < n → has set w ≡ true → slice_index_or votes w (pos 0) ≡ vote graph set w x y

-- the matrices of the pasts of the first blocks
abbrev pub ArePasts : Graph → List Virts → Type 0
ArePasts graph matrices = matrices ≡ map (past_virts graph) (range_with_len 0 (length matrices))

-- the same of a numbered graph, of so many of its blocks at most
pub record HoldsPasts (table : Numbered) (matrices : List Virts) : Type 0 where
  pub are : ArePasts (graph_of table) matrices
  pub few : length matrices ≤ length table.parents
