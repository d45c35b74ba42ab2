use Rattle.std.proofs.lemmas.Result.{err_from_is_err_and}
use Rattle.sp_tx.specs.Format.{output_form, sum_so_far}
use Rattle.sp_tx.specs.Spelling.{IsOutput, output_text}
use Rattle.sp_tx.proofs.Spelled.{output_spelled}
use Rattle.sp_form.proofs.Breaks.{decides_here, decides_step}
use Rattle.sp_tx.proofs.check.check_outputs.Goals as goal

pub returns-in_err-check_output : goal.returns-in_err-check_output
returns-in_err-check_output c =
    let p = err_from_is_err_and c.from_residual.result c.from_residual.ensures.1 in
    let found = c.in_err-check_output.ensures.fault in
    rw (p.1, p.2) (record { ok = tt; fault = (found.0, decides_here output_form sum_so_far output_text IsOutput c.args.outputs.now 0 c.outputs.output-index c.output-item.result c.outputs.sum c.in_err-check_output.field-0.0 c.outputs-test.true c.output-item.is found.1 c.outputs.invariant.left) })

pub outputs-preserved : goal.outputs-preserved
outputs-preserved c = record { fits = c.in_ok-check_output.ensures.ok.sum; left = decides_step output_form sum_so_far output_text IsOutput c.args.outputs.now 0 c.outputs.output-index c.output-item.result c.outputs.sum c.outputs-test.true c.output-item.is (λ rest. (output_spelled c.outputs.sum).again c.output-item.result rest c.in_ok-check_output.ensures.ok) c.in_ok-check_output.ensures.ok c.outputs.invariant.left }
