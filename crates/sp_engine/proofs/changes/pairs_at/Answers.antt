use Rattle.std.proofs.Common.{◌≡◌, ◌∙◌, ◌++◌, ◌∷◌, [], ℕ, List, ap, sym, arith, subst, inl, inr, Some}
use Rattle.std.specs.Prelude.{Contains, slice_get, slice_index_or}
use Rattle.std.proofs.lemmas.Bool.{cases_lt}
use Rattle.std.proofs.lemmas.List.Elements.{Contains-append_left, Contains-push}
use Rattle.std.proofs.lemmas.Option.{get_or_from_slice_get, slice_get-get_or}
use Rattle.sp_dag.specs.Numbered.{pairs_of}
use Rattle.sp_engine.proofs.changes.pairs_at.Goals as goal

pub numbers-preserved : goal.numbers-preserved
numbers-preserved c = λ j i pair lt at there.
    let items : List (ℕ × ℕ) = c.numbers.pairs.items in
    subst (λ (l : List (ℕ × ℕ)). Contains l pair) (sym c.in_ok-push.ensures.items)
    (elim (cases_lt j c.numbers.i-index) [
      | inl less ↦ Contains-append_left items (c.pair.result ∷ []) pair (c.numbers.invariant j i pair less at there)
      | inr ge ↦
          let here : slice_get c.args.numbers.now c.numbers.i-index ≡ Some i = ap (slice_get c.args.numbers.now) (let e : c.numbers.i-index ≡ j = omega (arith, lt, ge) in e) ∙ at in
          let number : slice_index_or c.args.numbers.now c.numbers.i-index 0 ≡ i = get_or_from_slice_get c.args.numbers.now c.numbers.i-index i 0 here in
          let found : Some c.pair.result ≡ Some pair = sym c.pair.ensures.pair ∙ ap (slice_get (pairs_of c.args.dag.now)) number ∙ there in
          let same : c.pair.result ≡ pair = cc in
          subst (λ (p : ℕ × ℕ). Contains (items ++ c.pair.result ∷ []) p) same (Contains-push items c.pair.result)
    ])

pub returns : goal.returns
returns c = λ i pair there at.
    c.numbers.invariant there.0 i pair (omega (arith, there.1, c.numbers-test.false)) (slice_get-get_or c.args.numbers.now there.0 i there.1 ∙ ap Some there.2) at
