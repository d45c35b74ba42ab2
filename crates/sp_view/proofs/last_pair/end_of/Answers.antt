use Rattle.std.proofs.Common.{◌≡◌, ◌∙◌, ◌+◌, ◌-◌, ◌&&◌, ℕ, Bool, false, true, ap, arith, inl, inr, refl, sym}
use Rattle.std.proofs.lemmas.Bool.{cases_lt}
use Rattle.sp_dag.specs.Numbered.{graph_of}
use Rattle.sp_dag.proofs.Ranked.{pair_kind}
use Rattle.sp_dag.proofs.Starts.{fewer_below}
use Rattle.sp_model.specs.Graph.{has}
use Rattle.sp_view.proofs.last_pair.end_of.Goals as goal
use Rattle.sp_view.proofs.last_pair.end_of.Goals.{then-test+else-start-end, else-test}

pub runs-init : goal.runs-init
runs-init c = record {
  none = λ i x y le high at. (let within = (pair_kind c.args.dag.now i (x, y) at).within in absurd (omega (arith, within, high, c.len-count.ensures.value)));
}

pub returns-then-stop-least : goal.returns-then-stop-least
returns-then-stop-least c = record {
  from = omega arith;
  within = c.requires;
  none = λ i x y le at. (let later = (c.first_pair-stop.ensures.from i x y at).0 (omega (arith, le, c.if-stop-least.true)) in
      c.runs.invariant.none i x y le (omega (arith, later, c.runs-test.true)) at);
  last = λ i x y le same at. absurd (omega (arith, le, same));
}

pub end_in-end-requires-clause-order : goal.end_in-end-requires-clause-order
end_in-end-requires-clause-order c =
    omega (
      arith,
      c.max-start.ensures,
      c.first_pair.ensures.value,
      c.first_pair-stop.ensures.value,
      c.if-stop-least.false,
      fewer_below (graph_of c.args.dag.now) (c.len-count.result - c.runs.gone - 1) (c.len-count.result - c.runs.gone - 1 + 1) (omega arith),
    )

pub returns-then-start-end : goal.returns-then-start-end
returns-then-start-end c = record {
  from = omega (arith, c.max-start.ensures, c.if-start-end.true);
  within = omega (arith, c.end_in-end.ensures.within, c.first_pair-stop.ensures.within);
  none = λ i x y le at. elim (cases_lt i c.first_pair-stop.result) [
    | inl own ↦ c.end_in-end.ensures.none i x y le own at
    | inr past ↦ (let later = (c.first_pair-stop.ensures.from i x y at).0 past in
        c.runs.invariant.none i x y (omega (arith, le, c.max-start.ensures, c.if-start-end.true)) (omega (arith, later, c.runs-test.true)) at)
  ];
  last = λ i x y le same at. c.end_in-end.ensures.last i x y (omega (arith, same, c.if-start-end.true)) same at;
}

and_false : (c d : Bool) → d ≡ false → (c && d) ≡ false
and_false true d e = e
and_false false d e = refl

pub runs-preserved : goal.runs-preserved
runs-preserved c =
    let block : ℕ = c.len-count.result - c.runs.gone - 1 in
    elim c.if-test.branch [
      | then-test+else-start-end w ↦ record {
        none = λ i x y le high at. elim (cases_lt y (block + 1)) [
          | inr far ↦ c.runs.invariant.none i x y le (omega (arith, far, c.runs-test.true)) at
          | inl near ↦ (let behind = (w.first_pair.ensures.from i x y at).1 (omega (arith, high, c.runs-test.true)) in
              elim (cases_lt i c.first_pair-stop.result) [
                | inl own ↦ w.end_in-end.ensures.none i x y (omega (arith, behind, le, w.max-start.ensures, w.if-start-end.false)) own at
                | inr past ↦ (let later = (c.first_pair-stop.ensures.from i x y at).0 past in absurd (omega (arith, later, near)))
              ])
        ];
      }
      | else-test w ↦ record {
        none = λ i x y le high at. elim (cases_lt y (block + 1)) [
          | inr far ↦ c.runs.invariant.none i x y le (omega (arith, far, c.runs-test.true)) at
          | inl near ↦ (let same : y ≡ block = omega (arith, near, high, c.runs-test.true) in
              and_false (has c.args.set.now x) (has c.args.set.now y) (ap (has c.args.set.now) same ∙ sym c.test.ensures.value ∙ w.if-test.false))
        ];
      }
    ]

pub returns : goal.returns
returns c = record {
  from = omega arith;
  within = c.requires;
  none = λ i x y le at. c.runs.invariant.none i x y le (omega (arith, c.runs-test.false)) at;
  last = λ i x y le same at. absurd (omega (arith, le, same));
}
