use Rattle.std.proofs.Common.{◌≡◌, ◌*◌, filter, slice_index_or, pos, ◌+ℤ◌, ◌≤ℤ◌}
use Rattle.std.specs.List.{range_with_len}
use Rattle.sp_model.specs.Graph.{has}
use Rattle.sp_model.specs.Votes.{total}
use Rattle.sp_plain.proofs.ballots.sum_of_members.Given as goal

abbrev pub invariant-loop-z : goal.invariant-loop-z
invariant-loop-z l = record {
  sum : l.sum ≡ total (λ z. slice_index_or l.votes z (pos 0)) (filter (has l.members) (range_with_len 0 l.z));
  high : l.sum ≤ℤ pos (128 * l.z);
  low : pos 0 ≤ℤ (l.sum +ℤ pos (128 * l.z));
}
