use Rattle.std.proofs.Common.{sym}
use Rattle.sp_engine.proofs.SpelledBlocks.{valid_fault, valid_ok, valid_work}
use Rattle.sp_engine.proofs.valid.valid_block.Goals as goal

pub returns-then-check_work-clause-found : goal.returns-then-check_work-clause-found
returns-then-check_work-clause-found c = sym (valid_ok c.args.bits c.check_work.result c.in-Ok.ensures.found c.in-Ok.ensures.block c.check_work.ensures c.if-check_work.true)

pub returns-else-check_work-clause-found : goal.returns-else-check_work-clause-found
returns-else-check_work-clause-found c = sym (valid_work c.args.bits c.check_work.result c.in-Ok.ensures.found c.in-Ok.ensures.block c.check_work.ensures c.if-check_work.false)

pub returns-in-Err-Fault-clause-found : goal.returns-in-Err-Fault-clause-found
returns-in-Err-Fault-clause-found c = sym (valid_fault c.args.bits c.args.bytes.now c.in-Err-Fault.fault (rw c.in-Err-Fault.field-0-is at c.in-Err-Fault.ensures.fault))
