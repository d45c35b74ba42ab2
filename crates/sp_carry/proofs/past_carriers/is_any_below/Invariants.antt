use Rattle.std.proofs.Common.{◌≡◌, false, take}
use Rattle.std.specs.List.{list_any}
use Rattle.sp_model.specs.Graph.{in_past}
use Rattle.sp_dag.specs.Numbered.{graph_of}
use Rattle.sp_carry.specs.Worth.{block_at}
use Rattle.sp_carry.proofs.past_carriers.is_any_below.Given as goal

abbrev pub invariant-loop-c : goal.invariant-loop-c
invariant-loop-c l = list_any (λ c. in_past (graph_of l.dag) (block_at l.rows c) l.number) (take l.c-index l.list) ≡ false
