use Rattle.std.proofs.Common.{◌≡◌, ◌<◌, ℕ, true}
use Rattle.std.specs.Prelude.{IfSome}
use Rattle.sp_dag.specs.Numbered.{graph_of}
use Rattle.sp_model.specs.Graph.{has}
use Rattle.sp_view.specs.Seen.{HasAbove}
use Rattle.sp_view.specs.Settled.{places_left}
use Rattle.sp_view.proofs.Reached.{AreCovered}
use Rattle.sp_view.proofs.pasts.pasts_of.Given as goal

abbrev pub invariant-pasts : goal.invariant-pasts
invariant-pasts l = record {
  open_still : IfSome l.next (λ b. has l.left b ≡ true);
  among : (b : ℕ) → has l.left b ≡ true → has l.blocks b ≡ true;
  small : (z : ℕ) → has l.below z ≡ true → z < 512;
  covers : AreCovered l.dag l.blocks l.left l.next l.below;
  only : (z : ℕ) → has l.below z ≡ true → HasAbove (graph_of l.dag) (has l.blocks) z;
}

abbrev pub decreases-pasts : goal.decreases-pasts
decreases-pasts l = places_left l.next
