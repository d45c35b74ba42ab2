use Rattle.std.proofs.Common.{◌≡◌, ◌∙◌, true, false, List, ap, sym}
use Rattle.std.specs.Prelude.{slice_get}
use Rattle.sp_model.specs.Graph.{has, past}
use Rattle.sp_dag.specs.Numbered.{graph_of}
use Rattle.sp_tx.specs.Parts.{Transaction}
use Rattle.sp_carry.specs.Kept.{carried_of}
use Rattle.sp_carry.specs.Worth.{outputs_or_none}
use Rattle.sp_carry.proofs.Finding.{carriers_below, is_below}
use Rattle.sp_carry.proofs.Outputs.{below_is, output_none, output_some}
use Rattle.sp_carry.proofs.past_carriers.output_below.Goals as goal

pub is_any_below-requires-clause-list : goal.is_any_below-requires-clause-list
is_any_below-requires-clause-list c = rw (c.carriers_of.ensures, c.deref.ensures.value) (carriers_below c.args.table.now.rows.items c.in-Some.tx)

pub returns-in-None : goal.returns-in-None
returns-in-None c =
    sym (output_none c.args.dag.now (carried_of c.args.table.now) (past (graph_of c.args.dag.now) c.args.table.now.blocks) c.args.from.now
    c.requires.linked (sym c.tx_of.ensures ∙ c.in-None.is))

pub returns-then-is_any_below : goal.returns-then-is_any_below
returns-then-is_any_below c =
    let below : c.is_any_below.result ≡ is_below (has (past (graph_of c.args.dag.now) c.args.table.now.blocks)) c.args.table.now.rows.items c.in-Some.tx =
    (rw (c.carriers_of.ensures, c.deref.ensures.value) at c.is_any_below.ensures)
    ∙ below_is c.args.dag.now (carried_of c.args.table.now) c.args.table.now.blocks c.in-Some.tx c.requires.order c.requires.number in
    c.output_of.ensures
    ∙ ap (λ (txs : List Transaction). slice_get (outputs_or_none (slice_get txs c.in-Some.tx)) c.args.from.now.index) c.deref-then-is_any_below.ensures.value
    ∙ sym (output_some c.args.dag.now (carried_of c.args.table.now) (past (graph_of c.args.dag.now) c.args.table.now.blocks) c.args.from.now
    c.in-Some.tx true c.requires.linked (sym c.tx_of.ensures ∙ c.in-Some.is) (sym below ∙ c.if-is_any_below.true))

pub returns-else-is_any_below : goal.returns-else-is_any_below
returns-else-is_any_below c =
    let below : c.is_any_below.result ≡ is_below (has (past (graph_of c.args.dag.now) c.args.table.now.blocks)) c.args.table.now.rows.items c.in-Some.tx =
    (rw (c.carriers_of.ensures, c.deref.ensures.value) at c.is_any_below.ensures)
    ∙ below_is c.args.dag.now (carried_of c.args.table.now) c.args.table.now.blocks c.in-Some.tx c.requires.order c.requires.number in
    sym (output_some c.args.dag.now (carried_of c.args.table.now) (past (graph_of c.args.dag.now) c.args.table.now.blocks) c.args.from.now
    c.in-Some.tx false c.requires.linked (sym c.tx_of.ensures ∙ c.in-Some.is) (sym below ∙ c.if-is_any_below.false))
