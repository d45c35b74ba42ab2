use Rattle.std.proofs.Common.{◌≡◌}
use Rattle.sp_dag.specs.Numbered.{graph_of}
use Rattle.sp_model.specs.Votes.{virt}
use Rattle.sp_plain.proofs.Entries.{grid}
use Rattle.sp_plain.proofs.plain.virts_of.Given as goal

abbrev pub invariant-loop-x : goal.invariant-loop-x
invariant-loop-x l = l.votes.items ≡ grid (virt (graph_of l.dag) l.members) l.x l.width
