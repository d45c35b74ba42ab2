use Rattle.std.proofs.Common.{◌≡◌, ◌-◌}
use Rattle.sp_tx.specs.Format.{input_form, last_outpoint, inputs_form}
use Rattle.sp_form.specs.Form.{rows}
use Rattle.sp_form.specs.Reading.{read}
use Rattle.sp_form.proofs.Rows.{with_front}
use Rattle.sp_tx.proofs.reader.TxReader.inputs.Given as goal

abbrev pub invariant-inputs : goal.invariant-inputs
invariant-inputs l = with_front l.inputs.items (read (rows input_form last_outpoint (l.count - l.counter) l.before) l.self) ≡ read (inputs_form l.count) l.fn.self
