use Rattle.sp_accept.proofs.Turned.{flips_more}
use Rattle.sp_accept.proofs.flips.flips_between.Goals as goal

pub txs-preserved : goal.txs-preserved
txs-preserved c =
    flips_more c.args.old.now c.args.new.now c.txs.flips.items c.note.new.flips.items c.is_set.result c.is_set-in-txs.result c.txs.tx
    c.txs.invariant c.is_set.ensures c.is_set-in-txs.ensures c.in_ok-note.ensures
