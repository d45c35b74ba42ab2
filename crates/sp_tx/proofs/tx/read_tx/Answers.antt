use Rattle.std.proofs.Common.{subst}
use Rattle.sp_form.specs.Reading.{Answers}
use Rattle.sp_tx.proofs.Whole.{is_cause, is_found, reads_between, reads_fault_at}
use Rattle.sp_tx.proofs.tx.read_tx.Goals as goal

pub returns-clause-found : goal.returns-clause-found
returns-clause-found c = is_found c.args.bytes.now c.args.at c.tx_at.result c.requires c.tx_at.ensures

pub returns-clause-fault : goal.returns-clause-fault
returns-clause-fault c = is_cause c.args.bytes.now c.args.at c.tx_at.result c.tx_at.ensures

pub returns-clause-only : goal.returns-clause-only
returns-clause-only c = λ t end h. subst (Answers c.tx_at.result) (reads_between c.args.bytes.now c.args.at end t h) c.tx_at.ensures

pub returns-clause-only_fault : goal.returns-clause-only_fault
returns-clause-only_fault c = λ fault h. subst (Answers c.tx_at.result) (reads_fault_at c.args.bytes.now c.args.at fault h) c.tx_at.ensures
