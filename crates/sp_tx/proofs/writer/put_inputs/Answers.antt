use Rattle.std.proofs.Common.{arith}
use Rattle.sp_tx.specs.Spelling.{input_text}
use Rattle.sp_tx.proofs.Lengths.{next_within}
use Rattle.sp_tx.proofs.writer.put_inputs.Goals as goal

pub put_input-requires-clause-room : goal.put_input-requires-clause-room
put_input-requires-clause-room c = omega (arith, c.inputs.invariant.len, c.inputs.invariant.room, c.requires.room, next_within input_text c.args.inputs.now c.inputs.input-index c.input-item.result c.inputs-test.true c.input-item.is)
