use Rattle.std.proofs.lemmas.Result.{err_from_is_err_and}
use Rattle.std.proofs.Common.{arith, length}
use Rattle.sp_tx.specs.Parts.{of_parts}
use Rattle.sp_tx.proofs.Judged.{input_breaks, judges_all, many_inputs, output_count_breaks}
use Rattle.sp_form.proofs.Breaks.{outside}
use Rattle.sp_tx.proofs.check.check.Goals as goal

pub returns-then-inputs-gt16 : goal.returns-then-inputs-gt16
returns-then-inputs-gt16 c = record { ok = tt; fault = (λ e. cc, λ rest. many_inputs (of_parts c.args.inputs.now c.args.outputs.now) rest c.if-inputs-gt16.true) }

pub returns-in_err-check_inputs : goal.returns-in_err-check_inputs
returns-in_err-check_inputs c =
    let p = err_from_is_err_and c.from_residual.result c.from_residual.ensures.1 in
    let found = c.in_err-check_inputs.ensures.fault in
    rw (p.1, p.2) (record { ok = tt; fault = (found.0, λ rest. input_breaks (of_parts c.args.inputs.now c.args.outputs.now) rest c.in_err-check_inputs.field-0.0 c.if-inputs-gt16.false found.1) })

pub returns-then-count-lt1 : goal.returns-then-count-lt1
returns-then-count-lt1 c =
    let size = outside (length c.args.outputs.now) 1 16 c.then-count-lt1.either in
    record { ok = tt; fault = (λ e. cc, λ rest. output_count_breaks (of_parts c.args.inputs.now c.args.outputs.now) rest c.if-inputs-gt16.false c.in_ok-check_inputs.ensures.ok size) }

pub returns : goal.returns
returns c = judges_all c.args.inputs.now c.args.outputs.now c.check_outputs.result c.if-inputs-gt16.false c.in_ok-check_inputs.ensures.ok (omega arith) (omega arith) c.check_outputs.ensures
