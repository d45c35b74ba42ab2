use Rattle.std.proofs.Common.{◌+◌, ◌<◌, ◌≤◌, arith, inl, inr}
use Rattle.std.proofs.lemmas.Bool.{cases_lt}
use Rattle.sp_dag.specs.Numbered.{IsPair, graph_of}
use Rattle.sp_dag.proofs.Ranked.{pair_kind}
use Rattle.sp_view.proofs.Idling.{idle_first}
use Rattle.sp_view.proofs.runs.run_of.Goals as goal

pub returns-then-is_idle-clause-none : goal.returns-then-is_idle-clause-none
returns-then-is_idle-clause-none c = λ _ before i x at j.
    let kind : IsPair c.args.dag.now (x, c.args.second) = pair_kind c.args.dag.now i (x, c.args.second) at in
    c.is_idle.ensures c.if-is_idle.true before x kind.order kind.unrelated j

pub returns-then-end-pair-clause-none : goal.returns-then-end-pair-clause-none
returns-then-end-pair-clause-none c = λ _ before i x at j.
    let from : c.first_pair-first.result ≤ i = (c.first_pair-first.ensures.from i x c.args.second at).1 (omega arith) in
    let below : i < c.first_pair-end.result =
    elim (cases_lt i c.first_pair-end.result) [
      | inl less ↦ less
      | inr more ↦ absurd (let above : c.args.second + 1 ≤ c.args.second = (c.first_pair-end.ensures.from i x c.args.second at).0 more in omega (arith, above))
    ] in
    idle_first (graph_of c.args.dag.now) c.args.b before c.args.members.now x c.args.second (c.member_from-pair.ensures.out i x c.args.second at from (omega (arith, below)))

pub returns-clause-idle : goal.returns-clause-idle
returns-clause-idle c = λ before i x z at j le less.
    let from : c.first_pair-first.result ≤ i = (c.first_pair-first.ensures.from i x z at).1 le in
    idle_first (graph_of c.args.dag.now) c.args.b before c.args.members.now x z (c.member_from-pair.ensures.out i x z at from less)
