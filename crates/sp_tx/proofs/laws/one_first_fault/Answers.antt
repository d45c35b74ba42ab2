use Rattle.sp_form.proofs.FormLaws.{apart, either, one_fault}
use Rattle.sp_tx.specs.Format.{tx_form}
use Rattle.sp_tx.proofs.laws.one_first_fault.Goals as goal

pub returns-clause-either : goal.returns-clause-either
returns-clause-either c = either tx_form

pub returns-clause-apart : goal.returns-clause-apart
returns-clause-apart c = apart tx_form

pub returns-clause-one : goal.returns-clause-one
returns-clause-one c = one_fault tx_form
