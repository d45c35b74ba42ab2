use Rattle.sp_journal.proofs.Recovered.{faulty_by, spelled_by}
use Rattle.sp_journal.proofs.reading.spelled.Goals as goal

pub returns-in-Ok : goal.returns-in-Ok
returns-in-Ok c = spelled_by c.args.genesis c.in-Ok.block c.args.bytes.now c.in-Ok.ensures.found c.in-Ok.ensures.block

pub returns-in-Err-Fault : goal.returns-in-Err-Fault
returns-in-Err-Fault c = faulty_by c.args.genesis c.args.bytes.now c.in-Err-Fault.field-0 c.in-Err-Fault.field-0-0 c.in-Err-Fault.field-0-is c.in-Err-Fault.ensures.fault
