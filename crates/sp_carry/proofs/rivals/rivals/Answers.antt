use Rattle.std.proofs.Common.{◌≡◌, ◌<◌, ◌∙◌, ◌||◌, ℕ, List, Some, ap, sym, length, []}
use Rattle.std.specs.Prelude.{slice_get}
use Rattle.std.specs.List.{list_any}
use Rattle.std.proofs.lemmas.Option.{slice_get-get_or}
use Rattle.sp_tx.specs.declared.parts.Input.{Input}
use Rattle.sp_tx.specs.Parts.{Transaction, of_parts}
use Rattle.sp_carry.specs.declared.carrier.Carrier.{Carrier}
use Rattle.sp_carry.specs.Carried.{tx_at}
use Rattle.sp_carry.specs.Kept.{carried_of}
use Rattle.sp_carry.specs.Rivals.{has_number, is_of_spender}
use Rattle.sp_carry.proofs.Keeping.{any_default}
use Rattle.sp_carry.proofs.Members.{member_meets}
use Rattle.sp_carry.proofs.Rivalry.{rivals_are, row_in}
use Rattle.sp_carry.proofs.rivals.rivals.Goals as goal

pub returns : goal.returns
returns c =
    let k = carried_of c.args.table.now in
    let row : Carrier = c.index-row.result.now in
    let there : slice_get k.rows c.args.c ≡ Some row =
    slice_get-get_or k.rows c.args.c c.index-row.result.now c.requires.there ∙ ap (λ (r : Carrier). Some r) (sym c.index-row.ensures) in
    let below : c.index-row.result.now.tx < length k.txs = member_meets (λ (q : Carrier). q.tx < length k.txs) k.rows row c.requires.linked.txs (row_in k.rows c.args.c row there) in
    let tx : c.index.result.now ≡ tx_at k c.index-row.result.now.tx = c.index.ensures ∙ any_default k.txs c.index-row.result.now.tx c.index.result.now (of_parts [] []) below in
    let inputs : c.as_slice-inputs.result.now ≡ (tx_at k c.index-row.result.now.tx).inputs =
    c.as_slice-inputs.ensures ∙ ap (λ (t : Transaction). t.inputs) (c.behind-table.view_is ∙ tx) in
    c.in_ok-ascending.ensures.keys
    ∙ rivals_are k c.args.c row c.note_rivals.new.into c.requires.linked there c.in_ok-ascending.ensures.ordered
    (λ d. c.in_ok-note_rivals.ensures d
    ∙ ap (λ (keys : List ℕ). has_number (record { keys = keys }) d || list_any (λ (i : Input). is_of_spender k.txs k.rows row.tx i d) c.as_slice-inputs.result.now) c.new-found.ensures.empty
    ∙ ap (list_any (λ (i : Input). is_of_spender k.txs k.rows row.tx i d)) inputs)
