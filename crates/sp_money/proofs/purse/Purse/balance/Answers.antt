use Rattle.std.proofs.Common.{◌≡◌, List, sym, subst, ◌∙◌}
use Rattle.sp_tx.specs.Parts.{Transaction}
use Rattle.sp_carry.specs.Money.{balance_of}
use Rattle.sp_money.specs.Accepted.{accepted_in}
use Rattle.sp_money.specs.Held.{Held, IsOf}
use Rattle.sp_money.proofs.Balances.{known_balance, no_balance}
use Rattle.sp_money.proofs.Numbered.{found}
use Rattle.sp_money.proofs.purse.Purse.balance.Goals as goal

pub returns-in-Some : goal.returns-in-Some
returns-in-Some c =
    let s = c.self.inside.store in
    subst (λ (h : Held). (txs : List Transaction) → IsOf txs h → c.total.result ≡ balance_of (accepted_in txs h.accepted) c.args.lock.now) c.self.view_is
    (known_balance s.slots.items s.totals.items s.starts.items s.locks s.accepted.items c.in-Some.number c.args.lock.now c.total.result
    c.self.invariant.0 c.number_of.ensures.once (found s.locks c.args.lock.now c.in-Some.number (sym c.number_of.ensures.value ∙ c.in-Some.is)) c.total.ensures)

pub returns-in-None : goal.returns-in-None
returns-in-None c =
    let s = c.self.inside.store in
    subst (λ (h : Held). (txs : List Transaction) → IsOf txs h → 0 ≡ balance_of (accepted_in txs h.accepted) c.args.lock.now) c.self.view_is
    (no_balance s.slots.items s.totals.items s.starts.items s.locks s.accepted.items c.args.lock.now
    c.self.invariant.0 (sym c.number_of.ensures.value ∙ c.in-None.is))
