use Rattle.sp_accept.proofs.StillRight.{right_of_graph}
use Rattle.sp_accept.proofs.laws.right_stays.Goals as goal

pub returns-clause-graph : goal.returns-clause-graph
returns-clause-graph c = right_of_graph
