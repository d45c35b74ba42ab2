use Rattle.std.proofs.Common.{◌≡◌, ◌∙◌, ℕ, Option, Some, arith, inl, inr, subst, sym}
use Rattle.std.specs.Prelude.{ℤ, Contains, slice_get}
use Rattle.std.proofs.lemmas.Bool.{cases_lt}
use Rattle.sp_view.specs.Summed.{HasTurned}
use Rattle.sp_view.proofs.sums.turned_of.Goals as goal

pub pairs-preserved : goal.pairs-preserved
pairs-preserved c = record {
  within = c.in_ok-note_turned.ensures.within c.args.count (omega (arith, c.pairs-test.true)) c.pairs.invariant.within;
  turned = λ i a b lt old new other. elim (cases_lt i c.pairs.pair) [
    | inl less ↦ c.in_ok-note_turned.ensures.kept i (c.pairs.invariant.turned i a b less old new other)
    | inr more ↦
        let here : i ≡ c.pairs.pair = omega (arith, lt, more) in
        subst (λ (k : ℕ). Contains c.note_turned.new.list.items k) (sym here)
        (c.in_ok-note_turned.ensures.turned a b (c.sum_at.ensures ∙ subst (λ (k : ℕ). slice_get c.args.older.now k ≡ Some a) here old) (c.sum_at-in-pairs.ensures ∙ subst (λ (k : ℕ). slice_get c.args.newer.now k ≡ Some b) here new) other)
  ];
  only = λ i inside. elim (c.in_ok-note_turned.ensures.only i inside) [
    | inl before ↦ c.pairs.invariant.only i before
    | inr here ↦ subst (λ (k : ℕ). HasTurned (slice_get c.args.older.now k) (slice_get c.args.newer.now k)) (sym here.0)
        (subst (λ (o : Option ℤ). HasTurned o (slice_get c.args.newer.now c.pairs.pair)) c.sum_at.ensures
        (subst (λ (o : Option ℤ). HasTurned c.sum_at.result o) c.sum_at-in-pairs.ensures here.1))
  ];
}
