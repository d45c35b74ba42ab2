use Rattle.std.proofs.Common.{◌≡◌, ◌∙◌, ap, arith, []}
use Rattle.std.specs.List.{list_any}
use Rattle.sp_tx.specs.declared.parts.Input.{Input}
use Rattle.sp_tx.specs.Parts.{Transaction, of_parts}
use Rattle.sp_carry.specs.Carried.{tx_at}
use Rattle.sp_carry.specs.Kept.{carried_of}
use Rattle.sp_carry.specs.RivalBlocks.{is_in_row_of_spender, is_rival_in}
use Rattle.sp_carry.proofs.Keeping.{any_default}
use Rattle.sp_carry.proofs.Marked.{marked_alike}
use Rattle.sp_carry.proofs.RivalRows.{others_marks}
use Rattle.sp_carry.proofs.rival_rows.mark_carrier.Goals as goal

pub returns-then-row : goal.returns-then-row
returns-then-row c =
    let k = carried_of c.args.table.now in
    let row = c.args.row in
    let tx : c.index.result.now ≡ tx_at k row.tx = c.index.ensures ∙ any_default k.txs row.tx c.index.result.now (of_parts [] []) c.requires.tx in
    let inputs : c.as_slice-inputs.result.now ≡ (tx_at k row.tx).inputs =
    c.as_slice-inputs.ensures ∙ ap (λ (t : Transaction). t.inputs) (c.behind-table.view_is ∙ tx) in
    marked_alike _ (λ t z. is_rival_in k t z row) c.args.rows.now.items c.mark_spenders.new.rows.items
    (λ t z lt. ap (list_any (λ (i : Input). is_in_row_of_spender k.txs row.tx row.block i t z)) inputs
    ∙ others_marks k c.requires.linked row t z c.requires.tx (omega (arith, lt, c.requires.long)) c.if-row.true)
    c.mark_spenders.ensures
