use Rattle.std.proofs.Common.{arith}
use Rattle.sp_tx.specs.Spelling.{spelling}
use Rattle.sp_tx.proofs.Lengths.{length-next}
use Rattle.sp_block.proofs.draft.txs_len.Goals as goal

pub txs-preserved : goal.txs-preserved
txs-preserved c = record {
  len = omega (arith, c.txs.invariant.len, c.written_len-len.ensures.len, length-next spelling c.args.txs.now c.txs.tx-index c.tx-item.result c.txs-test.true c.tx-item.is);
  bound = omega (arith, c.txs.invariant.bound, c.written_len-len.ensures.bound);
}
