use Rattle.std.proofs.Common.{◌≡◌, ◌<◌, ◌+◌, ℕ, List, map, length, ap, sym, ◌∙◌, arith}
use Rattle.std.specs.Prelude.{Some, is_some, slice_get, slice_index}
use Rattle.std.proofs.lemmas.List.{get_or_read}
use Rattle.sp_tx.specs.Parts.{Transaction}
use Rattle.sp_tx.specs.Spending.{id_of}
use Rattle.sp_carry.specs.Carried.{tx_at}
use Rattle.sp_money.proofs.Numbered.{found}
use Rattle.sp_carry.proofs.Places.{has_place}
use Rattle.sp_money.proofs.Standing.{id_within, length-starts, none_at, none_stands, stands}
use Rattle.sp_money.proofs.store.Store.place_of.Goals as goal

pub index-requires : goal.index-requires
index-requires c =
    let txs = c.args.carriers.now.txs in
    let at : slice_get (map id_of txs) c.in-Some.tx ≡ Some c.args.from.now.tx = found (map id_of txs) c.args.from.now.tx c.in-Some.tx (sym c.tx_of.ensures.value ∙ c.in-Some.is) in
    let within : c.in-Some.tx < length txs = id_within txs c.in-Some.tx c.args.from.now.tx at in
    let long : length c.args.self.now.starts.items ≡ length txs = ap length c.requires ∙ length-starts 0 txs in
    omega arith

pub returns-then-index-as_slice-clause-found : goal.returns-then-index-as_slice-clause-found
returns-then-index-as_slice-clause-found c =
    let txs = c.args.carriers.now.txs in
    let at : slice_get (map id_of txs) c.in-Some.tx ≡ Some c.args.from.now.tx = found (map id_of txs) c.args.from.now.tx c.in-Some.tx (sym c.tx_of.ensures.value ∙ c.in-Some.is) in
    let within : c.in-Some.tx < length txs = id_within txs c.in-Some.tx c.args.from.now.tx at in
    let long : length c.args.self.now.starts.items ≡ length txs = ap length c.requires ∙ length-starts 0 txs in
    let size : length c.as_slice.result.now ≡ length (tx_at c.args.carriers.now c.in-Some.tx).outputs =
    ap length c.as_slice.ensures ∙ ap (λ (t : Transaction). length t.outputs) (c.behind-carriers.view_is ∙ c.tx.ensures) in
    let start : c.index.result.now ≡ slice_index c.args.self.now.starts.items c.in-Some.tx =
    get_or_read c.args.self.now.starts.items c.in-Some.tx c.index.result.now (omega arith) c.index.ensures 0 in
    stands txs c.in-Some.tx (c.index.result.now + c.args.from.now.index) c.args.from.now c.block_count-blocks.ensures.carried.linked.ids at (omega arith)
    (ap (λ (n : ℕ). n + c.args.from.now.index) (start ∙ ap (λ (ns : List ℕ). slice_index ns c.in-Some.tx) c.requires))

pub returns-else-index-as_slice-clause-none : goal.returns-else-index-as_slice-clause-none
returns-else-index-as_slice-clause-none c =
    let txs = c.args.carriers.now.txs in
    let at : slice_get (map id_of txs) c.in-Some.tx ≡ Some c.args.from.now.tx = found (map id_of txs) c.args.from.now.tx c.in-Some.tx (sym c.tx_of.ensures.value ∙ c.in-Some.is) in
    let size : length c.as_slice.result.now ≡ length (tx_at c.args.carriers.now c.in-Some.tx).outputs =
    ap length c.as_slice.ensures ∙ ap (λ (t : Transaction). length t.outputs) (c.behind-carriers.view_is ∙ c.tx.ensures) in
    none_at txs c.in-Some.tx c.args.from.now c.block_count-blocks.ensures.carried.linked.ids at (omega arith)

pub returns-in-None-clause-none : goal.returns-in-None-clause-none
returns-in-None-clause-none c =
    none_stands c.args.carriers.now.txs c.args.from.now
    (has_place (map id_of c.args.carriers.now.txs) c.args.from.now.tx ∙ ap is_some (sym c.tx_of.ensures.value ∙ c.in-None.is))
