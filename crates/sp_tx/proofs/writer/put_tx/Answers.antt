use Rattle.sp_tx.proofs.Whole.{preimages_fit}
use Rattle.sp_tx.proofs.writer.put_tx.Goals as goal

pub put_inputs-requires-clause-short : goal.put_inputs-requires-clause-short
put_inputs-requires-clause-short c = rw c.as_slice.ensures (preimages_fit c.tx.inside.inputs c.tx.invariant.inputs)
