use Rattle.std.proofs.Common.{◌≡◌, ◌<◌, ℕ, pos, slice_index_or}
use Rattle.sp_dag.specs.Numbered.{graph_of}
use Rattle.sp_cert.specs.Entries.{entry, entry_by, members_of}
use Rattle.sp_cert.proofs.votes.wrong_entry.Given as goal

abbrev pub invariant-places : goal.invariant-places
invariant-places l =
    (w : ℕ) → w < l.z → entry l.world w
    ≡ entry_by (graph_of l.dag) (members_of (graph_of l.dag) l.world.number) (λ w. slice_index_or l.signs w (pos 0)) (entry l.world) w l.x l.y
