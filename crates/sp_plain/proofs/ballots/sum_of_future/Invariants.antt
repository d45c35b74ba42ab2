use Rattle.std.proofs.Common.{◌≡◌, ◌*◌, filter, ◌&&◌, slice_index_or, pos, ◌+ℤ◌, ◌≤ℤ◌}
use Rattle.std.specs.List.{range_with_len}
use Rattle.sp_model.specs.Graph.{has, in_past}
use Rattle.sp_model.specs.Votes.{total}
use Rattle.sp_dag.specs.Numbered.{graph_of}
use Rattle.sp_plain.proofs.ballots.sum_of_future.Given as goal

abbrev pub invariant-loop-w : goal.invariant-loop-w
invariant-loop-w l = record {
  sum : l.sum ≡ total (λ w. slice_index_or l.votes w (pos 0)) (filter (λ w. has l.members w && in_past (graph_of l.dag) l.z w) (range_with_len 0 l.w));
  high : l.sum ≤ℤ pos (128 * l.w);
  low : pos 0 ≤ℤ (l.sum +ℤ pos (128 * l.w));
}
