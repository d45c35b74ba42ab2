use Rattle.std.proofs.Common.{◌≡◌, ◌+◌, ◌-◌, ◌<◌, ℕ, Bool, false, List, [], ◌∷◌, ◌++◌, length, replicate, take, ap, sym, subst, ◌∙◌, arith}
use Rattle.std.proofs.lemmas.List.{append_assoc, replicate_more}
use Rattle.sp_money.specs.Held.{Held, IsOf}
use Rattle.sp_money.specs.Kept.{held_of}
use Rattle.sp_carry.specs.Carried.{tx_at}
use Rattle.sp_money.proofs.Fronts.{early_push}
use Rattle.sp_money.proofs.Growing.{longer_more, of_next}
use Rattle.sp_money.proofs.store.Store.add_txs.Goals as goal

pub txs-preserved : goal.txs-preserved
txs-preserved c =
    let was = c.args.self.now.accepted.items in
    let txs = c.args.carriers.now.txs in
    let within : c.txs.tx < length txs = omega arith in
    let one : c.txs.tx - length was + 1 ≡ c.txs.tx + 1 - length was = omega arith in (
      c.in_ok-add_tx.ensures.kept,
      longer_more c.args.self.now c.txs.self c.add_tx.new.self c.txs.invariant.1 c.add_tx.ensures.longer,
      subst (λ (h : Held). IsOf (take (c.txs.tx + 1) txs) h) (sym c.in_ok-add_tx.ensures.held) (of_next txs c.txs.tx (held_of c.txs.self) within c.txs.invariant.2),
      (λ early. early_push c.txs.self c.add_tx.new.self (tx_at c.args.carriers.now c.txs.tx) txs c.txs.invariant.0 (c.txs.invariant.3 early) c.in_ok-add_tx.ensures.held),
      ap (λ (h : Held). h.accepted) c.in_ok-add_tx.ensures.held
          ∙ ap (λ (flags : List Bool). flags ++ false ∷ []) c.txs.invariant.4
          ∙ append_assoc was (replicate (c.txs.tx - length was) false) (false ∷ [])
          ∙ ap (λ (flags : List Bool). was ++ flags) (replicate_more (c.txs.tx - length was) false)
          ∙ ap (λ (n : ℕ). was ++ replicate n false) one,
    )
