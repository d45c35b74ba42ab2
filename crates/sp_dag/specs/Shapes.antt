-- The graph of a table of parents alone, for the contracts of private functions: all pasts and pairs are read from it, as
-- neither ranks nor a profile play a part in them.
use Rattle.std.specs.Prelude.{ℕ, ◌<◌, ◌≡◌, false, List, length}
use Rattle.sp_model.specs.declared.profile.Profile.TheVariants.{One}
use Rattle.sp_model.specs.Graph.{Graph, Rank, related}
use Rattle.sp_dag.specs.Numbered.{blocks_from, pairs_below}

abbrev pub no_rank : ℕ → Rank
no_rank number = record { salt = 0; id = 0 }

-- the graph of a table of parents
abbrev pub shape_of : List (List ℕ) → Graph
shape_of table = record { profile = One; blocks = blocks_from no_rank 0 table }

-- its unrelated pairs
abbrev pub pairs_in : List (List ℕ) → List (ℕ × ℕ)
pairs_in table = pairs_below (shape_of table) (length table)

-- two numbers of unrelated blocks, the lower one first
pub record IsPairIn (table : List (List ℕ)) (pair : ℕ × ℕ) : Type 0 where
  pub order : pair.0 < pair.1
  pub within : pair.1 < length table
  pub unrelated : related (shape_of table) pair.0 pair.1 ≡ false
