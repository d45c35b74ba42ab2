use Rattle.std.proofs.lemmas.Result.{err_from_is_err_and}
use Rattle.sp_tx.specs.declared.parts.Output.{Output}
use Rattle.sp_form.specs.Form.{whole}
use Rattle.sp_tx.specs.Format.{output_form, amount_form, lock_form}
use Rattle.sp_form.proofs.Steps.{goes_on, nothing_more, stops, stops_later}
use Rattle.sp_tx.proofs.reader.TxReader.output.Goals as goal

pub returns-in_err-lock-clause-read : goal.returns-in_err-lock-clause-read
unfolding output_form
returns-in_err-lock-clause-read c =
    let p = err_from_is_err_and c.from_residual-in_err-lock.result c.from_residual-in_err-lock.ensures.1 in
    let amount = c.in_ok-amount.amount in
    let rest = λ (lock : _). whole (let o : Output = record { amount = amount; lock = lock } in o) in
    rw (p.1, p.2) (stops_later (amount_form c.args.before) _ c.args.self.now amount c.amount.new.self c.in_err-lock.field-0.0 c.in_ok-amount.ensures.read
    (stops lock_form rest c.amount.new.self c.in_err-lock.field-0.0 c.in_err-lock.ensures))

pub returns-clause-read : goal.returns-clause-read
unfolding output_form
returns-clause-read c =
    let amount = c.in_ok-amount.amount in
    let rest = λ (lock : _). whole (let o : Output = record { amount = amount; lock = lock } in o) in
    goes_on (amount_form c.args.before) _ c.args.self.now amount c.amount.new.self _ c.in_ok-amount.ensures.read
    (goes_on lock_form rest c.amount.new.self c.in_ok-lock.lock c.lock.new.self _ c.in_ok-lock.ensures (nothing_more _ c.lock.new.self))
