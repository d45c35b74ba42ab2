-- Where two blocks stand, in the graph with these parents of each block.
use Rattle.std.specs.Prelude.{ℕ, Bool, negsuc}
use Rattle.std.specs.Ordering.{int_eq}
use Rattle.sp_model.specs.Graph.{in_past, keys}
use Rattle.sp_model.specs.Votes.{virt}
use Rattle.sp_dag.specs.Numbered.{Numbered, graph_of}

-- x is in the past of y
abbrev pub is_below : Numbered → ℕ → ℕ → Bool
is_below table x y = in_past (graph_of table) x y

-- the virtual vote of all blocks puts x before y
abbrev pub is_before : Numbered → ℕ → ℕ → Bool
is_before table x y = int_eq (virt (graph_of table) (keys (graph_of table)) x y) (negsuc 0)
