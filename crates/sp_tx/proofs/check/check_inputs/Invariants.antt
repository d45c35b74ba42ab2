use Rattle.std.proofs.Common.{None, drop}
use Rattle.sp_tx.specs.Format.{input_form, last_outpoint}
use Rattle.sp_tx.specs.Spelling.{IsInput, input_text}
use Rattle.sp_form.proofs.Breaks.{Decides}
use Rattle.sp_tx.proofs.check.check_inputs.Given as goal

abbrev pub invariant-inputs : goal.invariant-inputs
invariant-inputs l = Decides input_form last_outpoint input_text IsInput l.inputs None (drop l.input-index l.inputs) l.before
