use Rattle.std.proofs.Common.{◌∙◌}
use Rattle.sp_block.proofs.Carried.{block_fault_cause}
use Rattle.sp_block.proofs.reader.BlockReader.next_tx.Goals as goal

pub returns-in-Err-clause-fault : goal.returns-in-Err-clause-fault
returns-in-Err-clause-fault c = rw c.block_fault_of.ensures (block_fault_cause c.args.self.now c.in-Err.fault (rw (c.rest.ensures ∙ c.self.view_is) at c.in-Err.ensures.fault))
