use Rattle.std.proofs.lemmas.Result.{err_from_is_err_and}
use Rattle.sp_tx.specs.declared.parts.Input.{Input}
use Rattle.sp_form.specs.Form.{whole}
use Rattle.sp_tx.specs.Format.{input_form, outpoint_form, preimage_form}
use Rattle.sp_form.proofs.Steps.{goes_on, nothing_more, stops, stops_later}
use Rattle.sp_tx.proofs.reader.TxReader.input.Goals as goal

pub returns-in_err-preimage : goal.returns-in_err-preimage
unfolding input_form
returns-in_err-preimage c =
    let p = err_from_is_err_and c.from_residual-in_err-preimage.result c.from_residual-in_err-preimage.ensures.1 in
    let from = c.in_ok-from.from in
    let rest = λ (preimage : _). whole (let i : Input = record { from = from; preimage = preimage } in i) in
    rw (p.1, p.2) (stops_later (outpoint_form c.args.before) _ c.args.self.now from c.outpoint.new.self c.in_err-preimage.field-0.0 c.in_ok-from.ensures
    (stops preimage_form rest c.outpoint.new.self c.in_err-preimage.field-0.0 c.in_err-preimage.ensures))

pub returns : goal.returns
unfolding input_form
returns c =
    let from = c.in_ok-from.from in
    let rest = λ (preimage : _). whole (let i : Input = record { from = from; preimage = preimage } in i) in
    goes_on (outpoint_form c.args.before) _ c.args.self.now from c.outpoint.new.self _ c.in_ok-from.ensures
    (goes_on preimage_form rest c.outpoint.new.self c.in_ok-preimage.preimage c.preimage.new.self _ c.in_ok-preimage.ensures (nothing_more _ c.preimage.new.self))
