use Rattle.std.proofs.Common.{◌≡◌, ◌∙◌, ◌||◌, ap, List, ℕ, []}
use Rattle.std.specs.List.{list_any}
use Rattle.sp_bits.specs.Places.{has}
use Rattle.sp_tx.specs.declared.parts.Input.{Input}
use Rattle.sp_tx.specs.Parts.{Transaction, of_parts}
use Rattle.sp_carry.specs.Carried.{tx_at}
use Rattle.sp_carry.specs.Kept.{carried_of}
use Rattle.sp_carry.specs.RivalBlocks.{has_spender_in}
use Rattle.sp_carry.proofs.Keeping.{any_default}
use Rattle.sp_carry.proofs.RivalRows.{own_row}
use Rattle.sp_carry.proofs.marks.rival_blocks.Goals as goal

pub returns : goal.returns
returns c =
    let k = carried_of c.args.table.now in
    let t = c.args.tx in
    let tx : c.index.result.now ≡ tx_at k t = c.index.ensures ∙ any_default k.txs t c.index.result.now (of_parts [] []) c.requires.tx in
    let inputs : c.as_slice.result.now ≡ (tx_at k t).inputs = c.as_slice.ensures ∙ ap (λ (t : Transaction). t.inputs) (c.behind-table.view_is ∙ tx) in
    own_row k c.requires.linked t c.mark_rivals.new.into c.requires.tx c.count-count.ensures.row
    (λ z. c.mark_rivals.ensures z
    ∙ ap (λ (l : List ℕ). has l z || list_any (λ (i : Input). has_spender_in k.txs k.rows t i z) c.as_slice.result.now) c.empty-row.ensures
    ∙ ap (list_any (λ (i : Input). has_spender_in k.txs k.rows t i z)) inputs)
