use Rattle.sp_form.proofs.FormLaws.{one_value}
use Rattle.sp_form.proofs.laws.one_value.Goals as goal

pub returns : goal.returns
returns g c = λ form a b r s x y. one_value form a b r s x y
