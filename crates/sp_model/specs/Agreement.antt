-- Graphs that agree on a set of blocks.
use Rattle.std.specs.Prelude.{ℕ, true, ◌≡◌, List}
use Rattle.sp_model.specs.Graph.{Graph, AreDistinct, has, keys, parents_of, rank_of}

-- both graphs have the same profile, and the blocks of the set with the same parents and ranks
pub record AgreesOn (set : List ℕ) (graph other : Graph) : Type 0 where
  pub distinct : AreDistinct (keys graph)
  pub other_distinct : AreDistinct (keys other)
  pub there : (z : ℕ) → has set z ≡ true → has (keys other) z ≡ true
  pub parents : (z : ℕ) → has set z ≡ true → parents_of other z ≡ parents_of graph z
  pub ranks : (z : ℕ) → has set z ≡ true → rank_of other z ≡ rank_of graph z
  pub profile : other.profile ≡ graph.profile

-- Two graphs have the same keys, and each key the same parents in both. Ranks and profiles may differ.
pub record AreShapedAlike (graph other : Graph) : Type 0 where
  pub same_keys : keys other ≡ keys graph
  pub parents : (z : ℕ) → parents_of other z ≡ parents_of graph z
