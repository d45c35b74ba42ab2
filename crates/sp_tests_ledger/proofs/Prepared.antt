-- A purse of some transactions may be prepared for more.
use Rattle.std.proofs.Common.{◌≤◌, ℕ, List, length, take, sym, ap, subst, ◌∙◌, arith}
use Rattle.sp_tx.specs.Parts.{Transaction}
use Rattle.sp_money.specs.Held.{Held, IsOf}
use Rattle.sp_engine.specs.Engine.{GoesOn}
use Rattle.sp_engine.proofs.Paying.{front_of, longer}

-- it has no more flags than there are transactions
pub few_flags : (txs more : List Transaction) (h : Held) → IsOf txs h → GoesOn txs more → length h.accepted ≤ length more
few_flags txs more h is on = omega (arith, is.flags, longer txs more on)

-- it is of the first of them
pub of_first : (txs more : List Transaction) (h : Held) → IsOf txs h → GoesOn txs more → IsOf (take (length h.accepted) more) h
of_first txs more h is on = subst (λ (first : List Transaction). IsOf first h) (sym (ap (λ (n : ℕ). take n more) is.flags ∙ front_of txs more on)) is
