use Rattle.std.proofs.Common.{◌≡◌, ◌<◌, ℕ, Some}
use Rattle.std.specs.Prelude.{slice_get}
use Rattle.sp_bits.specs.Places.{IsGreatest}
use Rattle.sp_view.specs.Views.{Viewed}
use Rattle.sp_engine.proofs.votes.Votes.tip.Given as goal

abbrev pub invariant-tips : goal.invariant-tips
invariant-tips l = (i : ℕ) (view : Viewed) → i < l.i → slice_get l.self.views i ≡ Some view → IsGreatest view.members l.n → ⊥
