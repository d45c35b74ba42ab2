use Rattle.std.proofs.Common.{◌∙◌, List, subst}
use Rattle.std.specs.Prelude.{ℤ, slice_get}
use Rattle.sp_view.specs.Summed.{HasTurned}
use Rattle.sp_view.proofs.sums.Sums.turned.Goals as goal

pub returns-clause-only : goal.returns-clause-only
returns-clause-only c = λ i inside.
    subst (λ (o : List ℤ). HasTurned (slice_get o i) (slice_get c.args.self.now i)) (c.as_slice.ensures.value ∙ c.older.view_is)
    (subst (λ (s : List ℤ). HasTurned (slice_get c.as_slice.result.now i) (slice_get s i)) (c.as_slice-2.ensures.value ∙ c.self.view_is)
    (c.in_ok-list.ensures.only i inside))
