use Rattle.sp_feed.proofs.PayloadBytes.{genesis_is_bytes, genesis_is_genesis, payloads_are_bytes}
use Rattle.sp_feed.proofs.laws.payloads_are_bytes.Goals as goal

pub returns-clause-blocks : goal.returns-clause-blocks
returns-clause-blocks c = payloads_are_bytes

pub returns-clause-genesis : goal.returns-clause-genesis
returns-clause-genesis c = genesis_is_bytes

pub returns-clause-spelled : goal.returns-clause-spelled
returns-clause-spelled c = genesis_is_genesis
