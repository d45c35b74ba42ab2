-- What an update is told of the blocks that joined the set.
use Rattle.std.specs.Prelude.{ℕ, ◌≢◌, ◌<◌, nat_lt, List, length, filter, Contains, IsFalse}
use Rattle.sp_model.specs.Graph.{keys, related}
use Rattle.sp_model.specs.Votes.{virt}
use Rattle.sp_dag.specs.Numbered.{Numbered, graph_of}
use Rattle.sp_carry.specs.declared.carrier.Carrier.{Carrier}
use Rattle.sp_accept.specs.Acceptance.{first_blocks}

-- how many carriers stand in the first n blocks
abbrev pub carriers_below : List Carrier → ℕ → ℕ
carriers_below rows n = length (filter (λ (r : Carrier). nat_lt r.block n) rows)

-- Each unrelated pair of the first n blocks is among these, the lower number first, on which their virtual vote is another
-- one than that of all blocks. There may be more pairs, in any order.
abbrev pub TellsChanges : Numbered → ℕ → List (ℕ × ℕ) → Type 0
TellsChanges table n pairs =
    (x y : ℕ) → x < y → y < n → IsFalse (related (graph_of table) x y)
    → virt (graph_of table) (first_blocks n) x y ≢ virt (graph_of table) (keys (graph_of table)) x y → Contains pairs (x, y)
