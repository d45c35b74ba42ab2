use Rattle.std.proofs.Common.{arith, sym, ◌∙◌}
use Rattle.sp_model.specs.Graph.{past}
use Rattle.sp_dag.specs.Numbered.{graph_of}
use Rattle.sp_carry.specs.Ledger.{carried}
use Rattle.sp_carry.specs.Carried.{ledger_of}
use Rattle.sp_carry.specs.Kept.{carried_of}
use Rattle.sp_carry.proofs.Covering.{unfound}
use Rattle.sp_carry.proofs.worth.worth_below.Goals as goal

pub returns-in-None : goal.returns-in-None
returns-in-None c =
    unfound (carried (ledger_of c.args.dag.now (carried_of c.args.table.now)) (past (graph_of c.args.dag.now) c.args.table.now.blocks))
    c.args.inputs.now c.inputs.input-index c.input-item.result (omega arith) c.input-item.is (sym c.in-None.is ∙ c.worth_at.ensures)
