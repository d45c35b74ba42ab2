use Rattle.std.proofs.Common.{◌≡◌, List, subst}
use Rattle.sp_tx.specs.Parts.{Transaction}
use Rattle.sp_carry.specs.Money.{balance_of}
use Rattle.sp_money.specs.Accepted.{accepted_in}
use Rattle.sp_money.specs.Held.{Held, IsOf}
use Rattle.sp_money.proofs.Balances.{known_balance}
use Rattle.sp_money.proofs.purse.Purse.lock_at.Goals as goal

pub returns-clause-balance : goal.returns-clause-balance
returns-clause-balance c =
    let s = c.self.inside.store in
    subst (λ (h : Held). (txs : List Transaction) → IsOf txs h → c.total.result ≡ balance_of (accepted_in txs h.accepted) c.at.result) c.self.view_is
    (known_balance s.slots.items s.totals.items s.starts.items s.locks s.accepted.items c.args.number c.at.result c.total.result
    c.self.invariant.0 c.at.ensures.once c.at.ensures.value c.total.ensures)
