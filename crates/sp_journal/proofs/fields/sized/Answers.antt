use Rattle.sp_form.specs.Values.{bytes_form}
use Rattle.sp_journal.specs.Format.{cut, length_form, sized_form}
use Rattle.sp_journal.proofs.Steps.{follows, stops}
use Rattle.sp_journal.proofs.fields.sized.Goals as goal

pub returns-in_default : goal.returns-in_default
unfolding sized_form
returns-in_default c = stops length_form (λ n. bytes_form n cut) c.args.fields.now c.in_default.ensures.found

pub returns : goal.returns
unfolding sized_form
returns c = follows length_form (λ n. bytes_form n cut) c.args.fields.now _ c.bytes.result c.in-Some.length c.block_length.new.fields c.bytes.new.fields c.in-Some.ensures.found c.bytes.ensures
