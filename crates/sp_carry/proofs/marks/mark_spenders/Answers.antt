use Rattle.std.proofs.Common.{arith, ap, length, List, ℕ}
use Rattle.sp_carry.proofs.Keeping.{spenders_below}
use Rattle.sp_carry.proofs.marks.mark_spenders.Goals as goal

pub mark_other-requires-clause-other : goal.mark_other-requires-clause-other
mark_other-requires-clause-other c =
    rw c.spenders_of-spenders.ensures
    (spenders_below c.args.input.now.from c.args.table.now.txs.items c.spenders.other-index 0
    (omega (arith, ap (λ (l : List ℕ). length l) c.spenders_of-spenders.ensures)))
