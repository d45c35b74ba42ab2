use Rattle.std.proofs.Common.{◌≡◌, ◌∙◌, ◌-◌, ◌≤◌, ℕ, ap, arith, inl, inr, subst, sym, Some}
use Rattle.std.specs.Prelude.{slice_get}
use Rattle.std.proofs.lemmas.Bool.{cases_lt}
use Rattle.sp_dag.specs.Numbered.{pairs_of}
use Rattle.sp_frozen.proofs.cuts.pairs_below.Goals as goal

pub pairs-preserved : goal.pairs-preserved
pairs-preserved c = (
  omega (arith, c.pairs.invariant.0),
  λ i pair past lt there. elim (cases_lt i c.pairs.left) [
    | inl less ↦
        (let last : i ≡ c.pairs.left - 1 = omega (arith, less, past) in
        let both : Some c.pair.result ≡ Some pair = sym c.pair.ensures.pair ∙ ap (slice_get (pairs_of c.args.dag.now)) (sym last) ∙ there in
        let same : c.pair.result ≡ pair = cc in
        subst (λ (p : ℕ × ℕ). c.args.count ≤ p.1) same c.if-count-pair.true)
    | inr le ↦ c.pairs.invariant.1 i pair le lt there
  ],
)
