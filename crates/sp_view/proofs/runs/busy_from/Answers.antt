use Rattle.std.proofs.Common.{◌≡◌, ◌<◌, ◌≤◌, ◌∙◌, ℕ, Some, ap, arith, inl, inr, length, refl, subst, sym}
use Rattle.std.proofs.lemmas.Bool.{cases_lt}
use Rattle.std.proofs.lemmas.Option.{slice_get_within}
use Rattle.sp_dag.specs.Numbered.{IsPair, graph_of, pairs_of}
use Rattle.sp_dag.proofs.Ranked.{pair_kind}
use Rattle.sp_view.specs.Idle.{IsIdle}
use Rattle.sp_view.proofs.runs.busy_from.Goals as goal

pub returns-in-Some-clause-idle : goal.returns-in-Some-clause-idle
returns-in-Some-clause-idle c = λ before i x z at j le less. elim (cases_lt z c.seconds.y) [
  | inl lower ↦ c.seconds.invariant.idle before i x z at j le lower
  | inr more ↦ c.in-Some.ensures.idle before i x z at j more less
]

pub returns-in-Some-clause-least : goal.returns-in-Some-clause-least
returns-in-Some-clause-least c = λ i x z at le. (let more : c.seconds.y ≤ z = c.in-Some.ensures.least i x z at le in omega (arith, more, c.seconds.invariant.start))

pub returns-clause-place : goal.returns-clause-place
returns-clause-place c = record {
  within = λ less. absurd (omega (arith, less, c.pair_count-end.ensures.value));
  ends = omega (arith, c.pair_count-end.ensures.value);
  low = λ i x z at le. absurd (let less : i < length (pairs_of c.args.dag.now) = slice_get_within (pairs_of c.args.dag.now) i (x, z) at in omega (arith, less, le, c.pair_count-end.ensures.value));
  behind = λ i x z at le. absurd (let less : i < length (pairs_of c.args.dag.now) = slice_get_within (pairs_of c.args.dag.now) i (x, z) at in omega (arith, less, le, c.pair_count-end.ensures.value));
  from = λ i x z at more. absurd (let kind : IsPair c.args.dag.now (x, z) = pair_kind c.args.dag.now i (x, z) at in let less : z < length c.args.dag.now.parents = kind.within in omega (arith, less, more, c.len-blocks.ensures.value));
  above_is = λ less. absurd (omega (arith, less, c.pair_count-end.ensures.value));
  free_is = λ less. absurd (omega (arith, less, c.pair_count-end.ensures.value));
}

pub returns-clause-idle : goal.returns-clause-idle
returns-clause-idle c = λ before i x z at j le less.
    let kind : IsPair c.args.dag.now (x, z) = pair_kind c.args.dag.now i (x, z) at in
    let within : z < length c.args.dag.now.parents = kind.within in
    c.seconds.invariant.idle before i x z at j le (omega (arith, within, c.len-blocks.ensures.value))

pub returns-clause-least : goal.returns-clause-least
returns-clause-least c = λ i x z at le.
    absurd (let less : i < length (pairs_of c.args.dag.now) = slice_get_within (pairs_of c.args.dag.now) i (x, z) at in omega (arith, less, le, c.pair_count-end.ensures.value))

pub seconds-preserved : goal.seconds-preserved
seconds-preserved c = record {
  start = omega (arith, c.seconds.invariant.start);
  idle = λ before i x z at j le less. elim (cases_lt z c.seconds.y) [
    | inl lower ↦ c.seconds.invariant.idle before i x z at j le lower
    | inr more ↦ (let same : c.seconds.y ≡ z = omega (arith, less, more) in
        subst (λ (n : ℕ). IsIdle (graph_of c.args.dag.now) c.args.b before c.args.members.now x n) same
        (c.run_of.ensures.none (rw c.in-None.is refl) before i x (at ∙ ap (λ (n : ℕ). Some (x, n)) (sym same)) j))
  ];
}
