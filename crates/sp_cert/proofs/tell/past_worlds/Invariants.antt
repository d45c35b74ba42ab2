use Rattle.std.proofs.Common.{◌≡◌, ◌&&◌, length, filter}
use Rattle.std.specs.Prelude.{All}
use Rattle.std.specs.List.{range_with_len}
use Rattle.sp_model.specs.Graph.{in_past}
use Rattle.sp_dag.specs.Numbered.{graph_of}
use Rattle.sp_cert.specs.Entries.{AreVirtsBelow, IsTold}
use Rattle.sp_cert.specs.Refusals.{numbers_of}
use Rattle.sp_cert.proofs.tell.past_worlds.Given as goal

abbrev pub invariant-places : goal.invariant-places
invariant-places l = record {
  long : length l.signs.items ≡ length l.dag.parents;
  known : AreVirtsBelow (graph_of l.dag) l.x l.y l.z l.signs.items;
  numbers : numbers_of l.worlds.items ≡ filter (λ z. in_past (graph_of l.dag) l.x z && in_past (graph_of l.dag) l.y z) (range_with_len 0 l.z);
  told : All (IsTold (graph_of l.dag) l.x l.y) l.worlds.items;
}
