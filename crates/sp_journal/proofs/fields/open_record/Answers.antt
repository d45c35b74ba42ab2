use Rattle.sp_journal.specs.Format.{gate_form, record_form, sized_form}
use Rattle.sp_journal.proofs.Steps.{follows, stops}
use Rattle.sp_journal.proofs.fields.open_record.Goals as goal

pub returns-in_default : goal.returns-in_default
unfolding record_form
returns-in_default c = stops gate_form (λ _. sized_form) c.args.fields.now c.in_default.ensures

pub returns : goal.returns
unfolding record_form
returns c = follows gate_form (λ _. sized_form) c.args.fields.now _ c.sized.result c.in-Some._gate c.open_gate.new.fields c.sized.new.fields c.in-Some.ensures c.sized.ensures
