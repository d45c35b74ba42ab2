-- The same blocks under other keys.
use Rattle.std.specs.Prelude.{ℕ, true, ◌≡◌, List, map}
use Rattle.sp_model.specs.Graph.{Graph, AreDistinct, has, keys, parents_of, rank_of}

-- The other graph has the same profile and each block of the graph under its new key with its rank, in any order of the list. The new keys are
-- told apart where the old ones are keys of the graph; what becomes of other numbers doesn't matter.
pub record IsRenamed (rename : ℕ → ℕ) (graph other : Graph) : Type 0 where
  pub one_to_one : (a b : ℕ) → has (keys graph) a ≡ true → has (keys graph) b ≡ true → rename a ≡ rename b → a ≡ b
  pub distinct : AreDistinct (keys graph)
  pub other_distinct : AreDistinct (keys other)
  pub into : (k : ℕ) → has (keys graph) k ≡ true → has (keys other) (rename k) ≡ true
  pub parents : (k : ℕ) → has (keys graph) k ≡ true → parents_of other (rename k) ≡ map rename (parents_of graph k)
  pub ranks : (k : ℕ) → has (keys graph) k ≡ true → rank_of other (rename k) ≡ rank_of graph k
  pub profile : other.profile ≡ graph.profile

-- the other set has the new keys of the set, in any order
pub record AreRenamed (rename : ℕ → ℕ) (set other : List ℕ) : Type 0 where
  pub into : (k : ℕ) → has set k ≡ true → has other (rename k) ≡ true
  pub onto : (k : ℕ) → has other k ≡ true → (j : ℕ) × (has set j ≡ true) × (rename j ≡ k)

-- The other graph has the blocks of the graph under new keys, in any order of the list, and no others. All
-- numbers have different new keys.
pub record IsWhollyRenamed (rename : ℕ → ℕ) (graph other : Graph) : Type 0 where
  pub one_to_one : (a b : ℕ) → rename a ≡ rename b → a ≡ b
  pub named : IsRenamed rename graph other
  pub whole : AreRenamed rename (keys graph) (keys other)
