use Rattle.sp_form.proofs.FormLaws.{one_value}
use Rattle.sp_tx.specs.Format.{tx_form}
use Rattle.sp_tx.proofs.laws.no_spelling_begins_another.Goals as goal

pub returns : goal.returns
returns c = λ a b r s t u h k e. one_value tx_form a b r s t u h k e
