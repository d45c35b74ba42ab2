use Rattle.std.proofs.lemmas.Result.{err_from_is_err_and}
use Rattle.sp_tx.specs.Format.{input_form, last_outpoint, inputs_form}
use Rattle.sp_form.specs.Reading.{read}
use Rattle.sp_form.proofs.Rows.{row_goes_on, row_stops, row_ends}
use Rattle.sp_tx.proofs.reader.TxReader.inputs.Goals as goal

pub returns-in_err-input : goal.returns-in_err-input
returns-in_err-input c =
    let p = err_from_is_err_and c.from_residual.result c.from_residual.ensures.1 in
    rw (p.1, p.2) (row_stops input_form last_outpoint c.in_err-input.field-0.0 c.inputs.inputs.items c.args.count c.inputs.counter c.inputs.before c.inputs.self (read (inputs_form c.args.count) c.args.self.now) c.inputs-test.true c.in_err-input.ensures c.inputs.invariant)

pub inputs-preserved : goal.inputs-preserved
inputs-preserved c =
    let step = row_goes_on input_form last_outpoint c.inputs.inputs.items c.args.count c.inputs.counter c.inputs.before c.inputs.self c.in_ok-input.input c.input.new.self (read (inputs_form c.args.count) c.args.self.now) c.inputs-test.true c.in_ok-input.ensures c.inputs.invariant in
    rw c.in_ok-push.ensures.items step

pub returns : goal.returns
returns c = rw c.of.ensures (row_ends input_form last_outpoint c.inputs.inputs.items c.args.count c.inputs.counter c.inputs.before c.inputs.self (read (inputs_form c.args.count) c.args.self.now) c.inputs-test.false c.inputs.invariant)
