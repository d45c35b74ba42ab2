use Rattle.std.proofs.Common.{◌≡◌, ◌<◌, ◌≤◌, ℕ, length, slice_index_or, pos}
use Rattle.std.specs.Prelude.{All}
use Rattle.sp_dag.specs.Numbered.{graph_of}
use Rattle.sp_cert.specs.Certificate.{IsSign}
use Rattle.sp_cert.specs.Entries.{vote_in}
use Rattle.sp_cert.specs.Refusals.{AreSides}
use Rattle.sp_cert.proofs.cast.votes_in.Given as goal

abbrev pub invariant-places : goal.invariant-places
invariant-places l = record {
  long : length l.votes.items ≡ length l.dag.parents;
  signs : All IsSign l.votes.items;
  members : l.tally.members ≡ l.members;
  sides : AreSides l.members (λ w. slice_index_or l.votes.items w (pos 0)) l.tally.plus l.tally.minus;
  none : (w : ℕ) → w < l.z → slice_index_or l.votes.items w (pos 0) ≡ pos 0;
  votes : (w : ℕ) → l.z ≤ w → w < length l.dag.parents → slice_index_or l.votes.items w (pos 0) ≡ vote_in (graph_of l.dag) l.members l.x l.y w;
}
