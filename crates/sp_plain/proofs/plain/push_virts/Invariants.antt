use Rattle.std.proofs.Common.{◌≡◌, ◌++◌, map}
use Rattle.std.specs.List.{range_with_len}
use Rattle.sp_dag.specs.Numbered.{graph_of}
use Rattle.sp_model.specs.Votes.{virt}
use Rattle.sp_plain.proofs.plain.push_virts.Given as goal

abbrev pub invariant-loop-y : goal.invariant-loop-y
invariant-loop-y l = l.votes.items ≡ l.fn.votes.items ++ map (virt (graph_of l.dag) l.members l.x) (range_with_len 0 l.y)
