use Rattle.sp_play.proofs.SceneBytes.{blocks_are_bytes, genesis_is_bytes}
use Rattle.sp_play.proofs.laws.blocks_are_bytes.Goals as goal

pub returns-clause-blocks : goal.returns-clause-blocks
returns-clause-blocks c = blocks_are_bytes

pub returns-clause-genesis : goal.returns-clause-genesis
returns-clause-genesis c = genesis_is_bytes
