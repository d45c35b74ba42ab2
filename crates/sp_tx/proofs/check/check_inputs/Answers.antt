use Rattle.std.proofs.lemmas.Result.{err_from_is_err_and}
use Rattle.std.proofs.Common.{None}
use Rattle.sp_tx.specs.Format.{input_form, last_outpoint}
use Rattle.sp_tx.specs.Spelling.{IsInput, input_text}
use Rattle.sp_tx.proofs.Spelled.{input_spelled}
use Rattle.sp_form.proofs.Breaks.{decides_here, decides_step}
use Rattle.sp_tx.proofs.check.check_inputs.Goals as goal

pub returns-in_err-check_input : goal.returns-in_err-check_input
returns-in_err-check_input c =
    let p = err_from_is_err_and c.from_residual.result c.from_residual.ensures.1 in
    let found = c.in_err-check_input.ensures.fault in
    rw (p.1, p.2) (record { ok = tt; fault = (found.0, decides_here input_form last_outpoint input_text IsInput c.args.inputs.now None c.inputs.input-index c.input-item.result c.inputs.before c.in_err-check_input.field-0.0 c.inputs-test.true c.input-item.is found.1 c.inputs.invariant) })

pub inputs-preserved : goal.inputs-preserved
inputs-preserved c = decides_step input_form last_outpoint input_text IsInput c.args.inputs.now None c.inputs.input-index c.input-item.result c.inputs.before c.inputs-test.true c.input-item.is (λ rest. (input_spelled c.inputs.before).again c.input-item.result rest c.in_ok-check_input.ensures.ok) c.in_ok-check_input.ensures.ok c.inputs.invariant
