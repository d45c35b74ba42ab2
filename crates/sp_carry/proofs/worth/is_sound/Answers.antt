use Rattle.std.proofs.Common.{◌≡◌, ◌∙◌, arith, sym, ap}
use Rattle.std.specs.Prelude.{sum_by}
use Rattle.sp_model.specs.Graph.{past}
use Rattle.sp_dag.specs.Numbered.{graph_of}
use Rattle.sp_tx.specs.declared.parts.Output.{Output}
use Rattle.sp_tx.specs.Parts.{Transaction}
use Rattle.sp_carry.specs.Payment.{payment_of}
use Rattle.sp_carry.specs.Ledger.{carried}
use Rattle.sp_carry.specs.Carried.{ledger_of}
use Rattle.sp_carry.specs.Kept.{carried_of}
use Rattle.sp_carry.specs.Worth.{worth_in}
use Rattle.sp_carry.proofs.Covering.{covered_none, covered_some, not_genesis}
use Rattle.sp_carry.proofs.worth.is_sound.Goals as goal

pub returns-in-Some : goal.returns-in-Some
returns-in-Some c =
    let below = carried (ledger_of c.args.dag.now (carried_of c.args.table.now)) (past (graph_of c.args.dag.now) c.args.table.now.blocks) in
    let other : c.args.table.now.blocks ≡ 0 → ⊥ = c.if-table-eq0.false in
    covered_some below c.args.tx.now c.paid.result c.in-Some.worth
    (ap (worth_in below) (sym (c.as_slice.ensures ∙ ap (λ (t : Transaction). t.inputs) c.tx.view_is)) ∙ sym c.worth_below.ensures ∙ c.in-Some.is)
    (c.paid.ensures ∙ ap (sum_by (λ (o : Output). o.amount)) (c.as_slice-in-Some.ensures ∙ ap (λ (t : Transaction). t.outputs) c.tx.view_is))
    ∙ sym (not_genesis c.args.dag.now (carried_of c.args.table.now) c.args.table.now.blocks (payment_of c.args.tx.now) c.requires.numbered
    (omega (arith, other)) c.requires.number)

pub returns-in-None : goal.returns-in-None
returns-in-None c =
    let below = carried (ledger_of c.args.dag.now (carried_of c.args.table.now)) (past (graph_of c.args.dag.now) c.args.table.now.blocks) in
    let other : c.args.table.now.blocks ≡ 0 → ⊥ = c.if-table-eq0.false in
    covered_none below c.args.tx.now
    (ap (worth_in below) (sym (c.as_slice.ensures ∙ ap (λ (t : Transaction). t.inputs) c.tx.view_is)) ∙ sym c.worth_below.ensures ∙ c.in-None.is)
    ∙ sym (not_genesis c.args.dag.now (carried_of c.args.table.now) c.args.table.now.blocks (payment_of c.args.tx.now) c.requires.numbered
    (omega (arith, other)) c.requires.number)
