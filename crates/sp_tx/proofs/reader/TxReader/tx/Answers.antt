use Rattle.std.proofs.Common.{refl}
use Rattle.sp_tx.proofs.Whole.{are_parts}
use Rattle.sp_tx.proofs.reader.TxReader.tx.Goals as goal

pub invariant_of-result : goal.invariant_of-result
invariant_of-result c = are_parts c.args.self.now _ c.outputs.new.self c.requires (rw (c.in_ok-count.ensures, c.in_ok-inputs.ensures, c.in_ok-count-2.ensures, c.in_ok-outputs.ensures) refl)
