use Rattle.std.proofs.Common.{◌≡◌, drop, length}
use Rattle.sp_dag.specs.Numbered.{graph_of}
use Rattle.sp_cert.specs.Refusals.{AreSigns}
use Rattle.sp_cert.proofs.votes.signs_of.Given as goal

abbrev pub invariant-places : goal.invariant-places
invariant-places l = record {
  long : length l.signs.items ≡ length l.dag.parents;
  signs : AreSigns (graph_of l.dag) (drop l.place l.worlds) l.signs.items;
}
