-- The sets whose votes are taken: they hold the past of each member, and so do pasts.
use Rattle.std.proofs.Common.{◌≡◌, ℕ, ◌<◌, true, List, length}
use Rattle.sp_model.specs.Graph.{has, past, IsDownset}
use Rattle.sp_model.proofs.Pasts.{has-past, past_downset}
use Rattle.sp_dag.specs.Numbered.{Numbered, AreInOrder, graph_of}
use Rattle.sp_dag.proofs.Ranked.{ancestors_lower, complete_numbered}
use Rattle.sp_plain.specs.Plain.{IsClosed}

pub closed_downset : (table : Numbered) (set : List ℕ) → AreInOrder table.parents → IsClosed (graph_of table) (length table.parents) set → IsDownset (graph_of table) set
closed_downset table set order closed = record { all_complete = λ z h. complete_numbered table z order (closed.below z h); closed = closed.closed }

pub past_closed : (table : Numbered) (z : ℕ) → AreInOrder table.parents → z < length table.parents → IsDownset (graph_of table) (past (graph_of table) z)
past_closed table z order lt = past_downset (graph_of table) z (complete_numbered table z order lt)

pub past_below : (table : Numbered) (z w : ℕ) → AreInOrder table.parents → z < length table.parents → has (past (graph_of table) z) w ≡ true → w < z
past_below table z w order lt h = ancestors_lower table w z order lt (has-past (graph_of table) z w h)
