use Rattle.std.proofs.Common.{◌≡◌, ◌∙◌, ap, arith, inl, inr, sym}
use Rattle.std.proofs.lemmas.Bool.{cases_lt}
use Rattle.sp_dag.specs.Numbered.{pairs_of}
use Rattle.sp_model.specs.Graph.{has}
use Rattle.sp_view.proofs.TwoRows.{pair_same}
use Rattle.sp_view.proofs.runs.member_from.Goals as goal
use Rattle.std.specs.Prelude.{slice_get}

pub pairs-preserved : goal.pairs-preserved
pairs-preserved c = record {
  start = omega (arith, c.pairs.invariant.start);
  out = λ j x z at le less. elim (cases_lt j c.pairs.i) [
    | inl lower ↦ c.pairs.invariant.out j x z at le lower
    | inr more ↦ (let here : j ≡ c.pairs.i = omega (arith, less, more) in
        let same = pair_same (pairs_of c.args.dag.now) c.pairs.i x z c.pair-x.result (ap (slice_get (pairs_of c.args.dag.now)) (sym here) ∙ at) c.pair-x.ensures.pair in
        ap (has c.args.members.now) same.0 ∙ sym c.test.ensures.value ∙ c.if-test.false)
  ];
}

pub returns-clause-out : goal.returns-clause-out
returns-clause-out c = λ i x z at le less. c.pairs.invariant.out i x z at le (omega (arith, less))
