-- A set of blocks whose votes can be asked: the graph, its frozen votes, and the set fit together.
use Rattle.std.specs.Prelude.{ℕ, Bool, true, false, ◌||◌, ◌≡◌, ◌<◌, List, [], length, slice_index_or}
use Rattle.sp_bits.specs.Places.{IsRow}
use Rattle.sp_model.specs.Graph.{Graph, has, in_past}
use Rattle.sp_model.specs.Joining.{Joins}
use Rattle.sp_dag.specs.Numbered.{Numbered, graph_of, AreInOrder}
use Rattle.sp_frozen.specs.Voters.{FrozenRows, HoldsFrozen}
use Rattle.sp_view.specs.Settled.{IsAsked}

-- the set is a row of blocks of the table that were added to the frozen votes, with the past of each
pub record IsVoting (table : Numbered) (frozen : FrozenRows) (set : List ℕ) : Type 0 where
  pub order : AreInOrder table.parents
  pub asked : IsAsked (graph_of table) set
  pub below : (z : ℕ) → has set z ≡ true → z < length table.parents
  pub held : HoldsFrozen table frozen
  pub added : (z : ℕ) → has set z ≡ true → z < frozen.blocks

-- such a set that a block has just joined
pub record IsJoined (table : Numbered) (frozen : FrozenRows) (b : ℕ) (before set : List ℕ) : Type 0 where
  pub voting : IsVoting table frozen set
  pub joins : Joins (graph_of table) b before set
  pub row : IsRow before

-- such a set that holds a smaller one, which has the past of each of its members too
pub record IsGrown (table : Numbered) (frozen : FrozenRows) (before set : List ℕ) : Type 0 where
  pub voting : IsVoting table frozen set
  pub asked : IsAsked (graph_of table) before
  pub into : (z : ℕ) → has before z ≡ true → has set z ≡ true

-- the blocks that a set grows by, and a part of the larger set that holds their pasts
pub record IsGrowth (g : Graph) (before set blocks below : List ℕ) : Type 0 where
  pub member : (b : ℕ) → has blocks b ≡ true → has set b ≡ true
  pub new : (b : ℕ) → has blocks b ≡ true → has before b ≡ false
  pub all : (b : ℕ) → has set b ≡ true → has before b ≡ false → has blocks b ≡ true
  pub covers : (b z : ℕ) → has blocks b ≡ true → in_past g z b ≡ true → has below z ≡ true
  pub within : (z : ℕ) → has below z ≡ true → has set z ≡ true

-- the row of a pair's frozen voters of -1 where a side is +1, and else that of those of +1
abbrev pub opposed : FrozenRows → ℕ → Bool → List ℕ
opposed frozen i true = slice_index_or frozen.minuses i []
opposed frozen i false = slice_index_or frozen.pluses i []

-- whether a block is one of the frozen voters of a pair
abbrev pub is_voter : FrozenRows → ℕ → ℕ → Bool
is_voter frozen i b = has (slice_index_or frozen.pluses i []) b || has (slice_index_or frozen.minuses i []) b
