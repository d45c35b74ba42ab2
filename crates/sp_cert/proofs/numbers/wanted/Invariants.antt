use Rattle.std.proofs.Common.{◌≡◌, ◌∷◌, ◌&&◌, filter}
use Rattle.std.specs.List.{range_with_len}
use Rattle.sp_model.specs.Graph.{in_past}
use Rattle.sp_dag.specs.Numbered.{graph_of}
use Rattle.sp_cert.specs.Entries.{whole_number}
use Rattle.sp_cert.proofs.numbers.wanted.Given as goal

abbrev pub invariant-candidates : goal.invariant-candidates
invariant-candidates l =
    l.wanted.items
    ≡ whole_number ∷ filter (λ z. in_past (graph_of l.dag) l.x z && in_past (graph_of l.dag) l.y z) (range_with_len 0 l.z)
