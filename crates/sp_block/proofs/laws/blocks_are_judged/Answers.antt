use Rattle.sp_block.proofs.Judged.{block_is_spelled, work_is_met}
use Rattle.sp_block.proofs.laws.blocks_are_judged.Goals as goal

pub returns-clause-spelled : goal.returns-clause-spelled
returns-clause-spelled c = block_is_spelled

pub returns-clause-work : goal.returns-clause-work
returns-clause-work c = work_is_met
