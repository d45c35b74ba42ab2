use Rattle.std.proofs.Common.{arith}
use Rattle.sp_money.proofs.Fronts.{slots_all, slots_before}
use Rattle.sp_money.proofs.store.Store.slot_count.Goals as goal

pub returns-then-txs-len-clause-value : goal.returns-then-txs-len-clause-value
returns-then-txs-len-clause-value c = λ list of.
    slots_before c.args.self.now list c.args.txs c.index.result.now c.len-then-txs-len.result c.min.result of (omega (arith, c.if-txs-len.true, c.len.ensures, c.args.self.now.starts.ok.0))
    c.index.ensures (omega (arith, c.len-then-txs-len.ensures, c.args.self.now.slots.ok.0)) c.min.ensures

pub returns-else-txs-len-clause-value : goal.returns-else-txs-len-clause-value
returns-else-txs-len-clause-value c = λ list of.
    slots_all c.args.self.now list c.args.txs c.len-else-txs-len.result of (omega (arith, c.if-txs-len.false, c.len.ensures, c.args.self.now.starts.ok.0))
    (omega (arith, c.len-else-txs-len.ensures, c.args.self.now.slots.ok.0))
