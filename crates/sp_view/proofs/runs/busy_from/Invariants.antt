use Rattle.std.proofs.Common.{◌≡◌, ◌<◌, ◌≤◌, ℕ, List, Some}
use Rattle.std.specs.Prelude.{slice_get}
use Rattle.sp_dag.specs.Numbered.{graph_of, pairs_of}
use Rattle.sp_model.specs.Joining.{Joins}
use Rattle.sp_view.specs.Idle.{IsIdle}
use Rattle.sp_view.proofs.runs.busy_from.Given as goal

abbrev pub invariant-seconds : goal.invariant-seconds
invariant-seconds l = record {
  start : l.second ≤ l.y;
  idle : (before : List ℕ) (i x z : ℕ) → slice_get (pairs_of l.dag) i ≡ Some (x, z) → Joins (graph_of l.dag) l.b before l.members → l.second ≤ z → z < l.y
      → IsIdle (graph_of l.dag) l.b before l.members x z;
}
