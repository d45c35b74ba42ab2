use Rattle.sp_gossip.proofs.Taking.{events_state}
use Rattle.sp_gossip.proofs.laws.nodes_stay_in_state.Goals as goal

pub returns : goal.returns
returns c = events_state
