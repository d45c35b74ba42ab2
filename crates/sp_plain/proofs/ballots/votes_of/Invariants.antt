use Rattle.std.proofs.Common.{◌≡◌, length}
use Rattle.sp_dag.specs.Numbered.{graph_of}
use Rattle.sp_plain.specs.Plain.{AreVotesFrom}
use Rattle.sp_plain.proofs.ballots.votes_of.Given as goal

abbrev pub invariant-loop-z : goal.invariant-loop-z
invariant-loop-z l = record {
  long : length l.votes.items ≡ l.width;
  known : AreVotesFrom (graph_of l.dag) l.members l.width l.x l.y l.z l.votes.items;
}
