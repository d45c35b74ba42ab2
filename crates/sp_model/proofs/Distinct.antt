-- No key repeats in the sets that votes are summed over, where none repeats in the graph.
use Rattle.std.proofs.Common.{ℕ, zero, suc, List, length}
use Rattle.std.specs.List.{list_all}
use Rattle.sp_model.specs.Graph.{AreDistinct, complete, future, Graph, has, in_past, keys, parents_of, past, rounds}
use Rattle.sp_model.proofs.Match.{distinct_filter}

pub complete_distinct : (g : Graph) → AreDistinct (keys g) → AreDistinct (complete g)
unfolding complete rounds
complete_distinct g apart = in_round (length g.blocks)
  where
    in_round : (k : ℕ) → AreDistinct (rounds k g)
    in_round zero = tt
    in_round (suc k) = distinct_filter (λ z. list_all (λ parent. has (rounds k g) parent) (parents_of g z)) (keys g) apart

pub past_distinct : (g : Graph) (z : ℕ) → AreDistinct (keys g) → AreDistinct (past g z)
past_distinct g z apart = distinct_filter (λ a. in_past g a z) (keys g) apart

pub future_distinct : (g : Graph) (set : List ℕ) (z : ℕ) → AreDistinct set → AreDistinct (future g set z)
future_distinct g set z apart = distinct_filter (λ w. in_past g z w) set apart
