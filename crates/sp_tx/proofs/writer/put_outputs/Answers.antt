use Rattle.std.proofs.Common.{arith}
use Rattle.sp_tx.specs.Spelling.{output_text}
use Rattle.sp_tx.proofs.Lengths.{next_within}
use Rattle.sp_tx.proofs.writer.put_outputs.Goals as goal

pub put_output-requires : goal.put_output-requires
put_output-requires c = omega (arith, c.outputs.invariant.len, c.outputs.invariant.room, c.requires.room, next_within output_text c.args.outputs.now c.outputs.output-index c.output-item.result c.outputs-test.true c.output-item.is)
