use Rattle.std.proofs.Common.{◌≡◌, length}
use Rattle.sp_dag.specs.Numbered.{graph_of}
use Rattle.sp_plain.specs.Plain.{ArePasts}
use Rattle.sp_plain.proofs.plain.add_pasts.Given as goal

abbrev pub invariant-loop-z : goal.invariant-loop-z
invariant-loop-z l = record {
  pasts : ArePasts (graph_of l.dag) l.pasts.items;
  long : length l.pasts.items ≡ l.z;
}
