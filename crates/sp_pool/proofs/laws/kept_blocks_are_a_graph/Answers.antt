use Rattle.sp_pool.proofs.Graphs.{kept_graph}
use Rattle.sp_pool.proofs.laws.kept_blocks_are_a_graph.Goals as goal

pub returns : goal.returns
returns c = kept_graph
