use Rattle.sp_engine.proofs.SpelledBlocks.{block_is_spelled, block_is_whole, fault_is_first}
use Rattle.sp_engine.proofs.laws.blocks_are_spelled.Goals as goal

pub returns-clause-spelled : goal.returns-clause-spelled
returns-clause-spelled c = block_is_spelled

pub returns-clause-whole : goal.returns-clause-whole
returns-clause-whole c = block_is_whole

pub returns-clause-fault : goal.returns-clause-fault
returns-clause-fault c = fault_is_first
