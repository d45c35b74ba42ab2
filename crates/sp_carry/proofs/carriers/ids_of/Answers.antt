use Rattle.std.proofs.Common.{arith}
use Rattle.sp_carry.proofs.Adding.{ids_more}
use Rattle.sp_carry.proofs.carriers.ids_of.Goals as goal

pub txs-preserved : goal.txs-preserved
txs-preserved c =
    ids_more c.args.txs.now c.txs.tx-index c.tx-item.result c.in_ok-id.field-0 c.txs.ids.items c.push.new.self.items (omega arith) c.tx-item.is
    c.in_ok-id.ensures c.txs.invariant c.in_ok-push.ensures.items
