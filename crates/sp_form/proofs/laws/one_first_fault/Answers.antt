use Rattle.sp_form.proofs.FormLaws.{apart, either, one_fault}
use Rattle.sp_form.proofs.laws.one_first_fault.Goals as goal

pub returns-clause-either : goal.returns-clause-either
returns-clause-either g c = λ form list. either form list

pub returns-clause-apart : goal.returns-clause-apart
returns-clause-apart g c = λ form list fault. apart form list fault

pub returns-clause-one : goal.returns-clause-one
returns-clause-one g c = λ form list f g. one_fault form list f g
