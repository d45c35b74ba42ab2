use Rattle.std.proofs.Common.{◌≡◌, ◌<◌, ◌≤◌, ◌+◌, ℕ, List, length, ap, sym, subst, ◌∙◌, arith}
use Rattle.std.specs.Prelude.{slice_index}
use Rattle.std.proofs.lemmas.List.{get_or_read, length-map}
use Rattle.sp_tx.specs.declared.parts.Input.{Input}
use Rattle.sp_tx.specs.Parts.{Transaction}
use Rattle.sp_carry.specs.Carried.{tx_at}
use Rattle.sp_carry.proofs.Apart.{inputs_apart}
use Rattle.sp_money.specs.declared.slot.Slot.{Slot}
use Rattle.sp_money.specs.Held.{Held}
use Rattle.sp_money.specs.Kept.{held_of}
use Rattle.sp_money.specs.Places.{counted, marked, CanCount}
use Rattle.sp_money.proofs.Puts.{with_counts, with_lives}
use Rattle.sp_money.proofs.Standing.{length-starts}
use Rattle.sp_money.proofs.Turning.{inputs_can, outputs_within, turned_of}
use Rattle.sp_money.proofs.store.Store.turn.Goals as goal

pub index-start-requires : goal.index-start-requires
index-start-requires c =
    let long : length c.args.self.now.starts.items ≡ length c.args.carriers.now.txs = ap length c.requires.of.starts ∙ length-starts 0 c.args.carriers.now.txs in
    let within : c.args.tx < length c.args.carriers.now.txs = c.requires.within in
    omega arith

pub set_live-requires-clause-within : goal.set_live-requires-clause-within
set_live-requires-clause-within c =
    let within : c.args.tx < length c.args.carriers.now.txs = c.requires.within in
    let long : length c.args.self.now.starts.items ≡ length c.args.carriers.now.txs = ap length c.requires.of.starts ∙ length-starts 0 c.args.carriers.now.txs in
    let start : c.index-start.result.now ≡ slice_index c.args.self.now.starts.items c.args.tx =
    get_or_read c.args.self.now.starts.items c.args.tx c.index-start.result.now (omega arith) c.index-start.ensures 0 in
    let size : length c.as_slice.result.now ≡ length (tx_at c.args.carriers.now c.args.tx).outputs =
    ap length c.as_slice.ensures ∙ ap (λ (t : Transaction). length t.outputs) (c.payment.view_is ∙ c.tx-payment.ensures) in
    let most : c.index-start.result.now + length (tx_at c.args.carriers.now c.args.tx).outputs ≤ length (held_of c.args.self.now).live =
    outputs_within c.args.carriers.now.txs (held_of c.args.self.now) c.args.tx c.args.now c.requires.of c.requires.within c.index-start.result.now start in
    let slots : length (held_of c.args.self.now).live ≡ length c.args.self.now.slots.items = length-map c.args.self.now.slots.items (λ (s : Slot). s.live) in
    omega (arith, most, slots)

pub count_inputs-requires-clause-apart : goal.count_inputs-requires-clause-apart
count_inputs-requires-clause-apart c = rw c.as_slice-2.ensures (inputs_apart _ c.payment.invariant)

pub count_inputs-requires-clause-room : goal.count_inputs-requires-clause-room
count_inputs-requires-clause-room c =
    let inputs : c.as_slice-2.result.now ≡ (tx_at c.args.carriers.now c.args.tx).inputs =
    c.as_slice-2.ensures ∙ ap (λ (t : Transaction). t.inputs) (c.payment.view_is ∙ c.tx-payment.ensures) in
    subst (λ (h : Held). CanCount c.args.now c.as_slice-2.result.now h.coins h.spenders) (sym c.set_live.ensures.held)
    (subst (λ (xs : List Input). CanCount c.args.now xs (held_of c.args.self.now).coins (held_of c.args.self.now).spenders) (sym inputs)
    (inputs_can c.args.carriers.now.txs (held_of c.args.self.now) c.args.tx c.args.now c.requires.of c.requires.within c.requires.other c.requires.kept.few_txs))

pub returns-clause-of : goal.returns-clause-of
returns-clause-of c =
    let within : c.args.tx < length c.args.carriers.now.txs = c.requires.within in
    let long : length c.args.self.now.starts.items ≡ length c.args.carriers.now.txs = ap length c.requires.of.starts ∙ length-starts 0 c.args.carriers.now.txs in
    let start : c.index-start.result.now ≡ slice_index c.args.self.now.starts.items c.args.tx =
    get_or_read c.args.self.now.starts.items c.args.tx c.index-start.result.now (omega arith) c.index-start.ensures 0 in
    let size : length c.as_slice.result.now ≡ length (tx_at c.args.carriers.now c.args.tx).outputs =
    ap length c.as_slice.ensures ∙ ap (λ (t : Transaction). length t.outputs) (c.payment.view_is ∙ c.tx-payment.ensures) in
    let inputs : c.as_slice-2.result.now ≡ (tx_at c.args.carriers.now c.args.tx).inputs =
    c.as_slice-2.ensures ∙ ap (λ (t : Transaction). t.inputs) (c.payment.view_is ∙ c.tx-payment.ensures) in
    turned_of c.args.carriers.now.txs (held_of c.args.self.now) c.args.tx c.args.now c.requires.of c.requires.within c.index-start.result.now
    (held_of c.set_live.new.self) (held_of c.count_inputs.new.self) c.requires.other start
    (c.set_live.ensures.held
    ∙ ap (λ (n : ℕ). with_lives (held_of c.args.self.now) (marked (held_of c.args.self.now).live c.index-start.result.now n c.args.now)) size)
    (c.count_inputs.ensures.held
    ∙ ap (λ (xs : List Input). with_counts (held_of c.set_live.new.self) (counted c.args.now xs (held_of c.set_live.new.self).coins (held_of c.set_live.new.self).spenders)) inputs)
