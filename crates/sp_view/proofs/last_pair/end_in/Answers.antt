use Rattle.std.proofs.Common.{◌∙◌, ◌+◌, ap, arith, inl, inr, sym}
use Rattle.std.specs.Prelude.{slice_get}
use Rattle.std.proofs.lemmas.Bool.{cases_lt}
use Rattle.sp_dag.specs.Numbered.{pairs_of}
use Rattle.sp_view.proofs.last_pair.end_in.Goals as goal

pub pairs-preserved : goal.pairs-preserved
pairs-preserved c = record {
  none = λ i x y le less at. elim (cases_lt (i + c.pairs.gone) c.args.stop) [
    | inl here ↦ sym (c.has_pair.ensures x y (ap (slice_get (pairs_of c.args.dag.now)) (omega (arith, le, here)) ∙ at)) ∙ c.if-has_pair.false
    | inr more ↦ c.pairs.invariant.none i x y more less at
  ];
}

pub returns-then-has_pair-clause-none : goal.returns-then-has_pair-clause-none
returns-then-has_pair-clause-none c = λ i x y le less at. c.pairs.invariant.none i x y (omega (arith, le, c.pairs-test.true)) less at

pub returns-then-has_pair-clause-last : goal.returns-then-has_pair-clause-last
returns-then-has_pair-clause-last c = λ i x y le same at. sym (c.has_pair.ensures x y (ap (slice_get (pairs_of c.args.dag.now)) (omega (arith, same)) ∙ at)) ∙ c.if-has_pair.true

pub returns-clause-none : goal.returns-clause-none
returns-clause-none c = λ i x y le less at. c.pairs.invariant.none i x y (omega (arith, le, c.pairs-test.false)) less at

pub returns-clause-last : goal.returns-clause-last
returns-clause-last c = λ i x y le same at. absurd (omega (arith, le, same))
