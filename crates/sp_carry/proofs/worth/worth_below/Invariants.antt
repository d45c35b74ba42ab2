use Rattle.std.proofs.Common.{◌≡◌, ◌≤◌, ◌*◌, ◌^◌, true, take, map}
use Rattle.std.specs.Prelude.{sum_by}
use Rattle.std.specs.List.{list_all}
use Rattle.sp_model.specs.Graph.{past}
use Rattle.sp_dag.specs.Numbered.{graph_of}
use Rattle.sp_carry.specs.Payment.{finds, spent_by}
use Rattle.sp_carry.specs.Ledger.{carried}
use Rattle.sp_carry.specs.Carried.{ledger_of}
use Rattle.sp_carry.specs.Kept.{carried_of}
use Rattle.sp_carry.specs.Worth.{amount_of}
use Rattle.sp_carry.proofs.worth.worth_below.Given as goal

abbrev pub invariant-inputs : goal.invariant-inputs
invariant-inputs l =
    let below = carried (ledger_of l.dag (carried_of l.table)) (past (graph_of l.dag) l.table.blocks) in
    (list_all (finds below) (map spent_by (take l.input-index l.inputs)) ≡ true)
    × (l.worth ≡ sum_by (amount_of below) (map spent_by (take l.input-index l.inputs)))
    × (l.worth ≤ l.input-index * 2 ^ 64)
