use Rattle.std.proofs.lemmas.Result.{err_from_is_err_and}
use Rattle.sp_tx.specs.Format.{output_form, sum_so_far, outputs_form}
use Rattle.sp_form.specs.Reading.{read}
use Rattle.sp_form.proofs.Rows.{row_goes_on, row_stops, row_ends}
use Rattle.sp_tx.proofs.reader.TxReader.outputs.Goals as goal

pub returns-in_err-output : goal.returns-in_err-output
returns-in_err-output c =
    let p = err_from_is_err_and c.from_residual.result c.from_residual.ensures.1 in
    rw (p.1, p.2) (row_stops output_form sum_so_far c.in_err-output.field-0.0 c.outputs.outputs.items c.args.count c.outputs.counter c.outputs.sum c.outputs.self (read (outputs_form c.args.count) c.args.self.now) c.outputs-test.true c.in_err-output.ensures.read c.outputs.invariant.read)

pub outputs-preserved : goal.outputs-preserved
outputs-preserved c =
    let step = row_goes_on output_form sum_so_far c.outputs.outputs.items c.args.count c.outputs.counter c.outputs.sum c.outputs.self c.in_ok-output.output c.output.new.self (read (outputs_form c.args.count) c.args.self.now) c.outputs-test.true c.in_ok-output.ensures.read c.outputs.invariant.read in
    record { fits = c.in_ok-output.ensures.fits; read = rw c.in_ok-push.ensures.items step }

pub returns : goal.returns
returns c = rw c.of.ensures (row_ends output_form sum_so_far c.outputs.outputs.items c.args.count c.outputs.counter c.outputs.sum c.outputs.self (read (outputs_form c.args.count) c.args.self.now) c.outputs-test.false c.outputs.invariant.read)
