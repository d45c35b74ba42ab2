use Rattle.std.proofs.Common.{◌≡◌, ◌∷◌, [], ◌++◌, refl, arith, ap, ◌∙◌, List, ℕ, length}
use Rattle.std.specs.Prelude.{position, nat_eq}
use Rattle.std.proofs.Math.ListN.{length-map}
use Rattle.sp_tx.specs.Parts.{Transaction}
use Rattle.sp_tx.specs.Spending.{id_of}
use Rattle.sp_carry.specs.declared.carrier.Carrier.{Carrier}
use Rattle.sp_carry.specs.Kept.{carried_of}
use Rattle.sp_carry.proofs.Apart.{inputs_apart}
use Rattle.sp_carry.proofs.Keeping.{keeps_new, noted_below}
use Rattle.sp_carry.proofs.table.Table.carry_new.Goals as goal

pub note-requires-clause-fresh : goal.note-requires-clause-fresh
note-requires-clause-fresh c = ap (position (nat_eq c.args.id)) c.requires.kept.ids ∙ c.requires.fresh

pub note-requires-clause-room : goal.note-requires-clause-room
note-requires-clause-room c =
    let long : length c.args.self.now.ids ≡ length c.args.self.now.txs.items = ap length c.requires.kept.ids ∙ length-map c.args.self.now.txs.items id_of in
    omega (arith, long, c.requires.last)

pub note-requires-clause-below : goal.note-requires-clause-below
note-requires-clause-below c =
    noted_below c.args.self.now c.args.row.tx c.requires.kept c.requires.last

pub note-requires-clause-apart : goal.note-requires-clause-apart
note-requires-clause-apart c = rw c.as_slice-inputs.ensures (inputs_apart _ c.tx.invariant)

pub returns-clause-ok : goal.returns-clause-ok
returns-clause-ok c =
    keeps_new c.args.self.now _ (carried_of c.args.self.now) c.args.tx.now c.args.row c.args.id c.len-number.result c.requires.kept refl
    (c.push_reserved.ensures.items
    ∙ ap (λ (xs : List Transaction). xs ++ c.in_ok-copy.copy ∷ []) c.in_ok-reserve.ensures.items
    ∙ ap (λ (x : Transaction). c.args.self.now.txs.items ++ x ∷ []) c.in_ok-copy.ensures)
    c.in_ok-note.ensures.ids c.requires.is
    (c.push_reserved-3.ensures.items ∙ ap (λ (rows : List Carrier). rows ++ c.args.row ∷ []) c.in_ok-reserve-3.ensures.items)
    (c.push_reserved-2.ensures.items
    ∙ ap (λ (xs : List (List ℕ)). xs ++ c.in_ok-list.list ∷ []) c.in_ok-reserve-2.ensures.items
    ∙ ap (λ (x : List ℕ). c.args.self.now.by_tx.items ++ x ∷ []) c.in_ok-list.ensures)
    (rw (c.as_slice-inputs.ensures ∙ ap (λ (t : Transaction). t.inputs) c.tx.view_is) at c.in_ok-note.ensures.inputs)
    c.requires.last (omega (arith, c.len-number.ensures, c.args.self.now.rows.ok)) c.requires.none
