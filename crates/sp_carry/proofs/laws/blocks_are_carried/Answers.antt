use Rattle.sp_carry.proofs.Carrying.{block_carried}
use Rattle.sp_carry.proofs.laws.blocks_are_carried.Goals as goal

pub returns-clause-block : goal.returns-clause-block
returns-clause-block c = block_carried
