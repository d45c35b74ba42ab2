use Rattle.std.proofs.Common.{◌≡◌, ◌<◌, ◌≤◌, Some, arith, get_or, inl, inr}
use Rattle.std.specs.Prelude.{slice_get}
use Rattle.std.proofs.lemmas.Bool.{cases_lt}
use Rattle.sp_dag.specs.Numbered.{graph_of, pairs_of}
use Rattle.sp_view.proofs.Held.{some_pair}
use Rattle.sp_view.proofs.Idling.{idle_first}
use Rattle.sp_view.proofs.runs.go_on.Goals as goal

pub returns-then-next-place-clause-idle : goal.returns-then-next-place-clause-idle
returns-then-next-place-clause-idle c = λ before i x z at j later less.
    idle_first (graph_of c.args.dag.now) c.args.b before c.args.members.now x z (c.next_inside-next.ensures.out i x z at later less)

pub returns-clause-later : goal.returns-clause-later
returns-clause-later c = elim (cases_lt c.args.place.now.pair c.next_run.new.place.pair) [
  | inl less ↦ less
  | inr more ↦ (let pair = get_or (pairs_of c.args.dag.now) c.args.place.now.pair (0, 0) in
      let at : slice_get (pairs_of c.args.dag.now) c.args.place.now.pair ≡ Some (pair.0, pair.1) = some_pair (pairs_of c.args.dag.now) c.args.place.now.pair c.requires.listed in
      let least : c.args.place.now.second < pair.1 = c.next_run.ensures.least c.args.place.now.pair pair.0 pair.1 at more in
      let ended : c.args.place.now.end ≤ c.args.place.now.pair = c.requires.place.from c.args.place.now.pair pair.0 pair.1 at least in
      let within = c.requires.place.within c.requires.listed in
      absurd (omega (arith, ended, within.0)))
]

pub returns-clause-idle : goal.returns-clause-idle
returns-clause-idle c = λ before i x z at j later less. elim (cases_lt i c.args.place.now.end) [
  | inl inner ↦ idle_first (graph_of c.args.dag.now) c.args.b before c.args.members.now x z (c.next_inside-next.ensures.out i x z at later (omega (arith, inner)))
  | inr outer ↦ c.next_run.ensures.idle before i x z at j (c.requires.place.behind i x z at outer) less
]
