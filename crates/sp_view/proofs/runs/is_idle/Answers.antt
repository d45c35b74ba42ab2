use Rattle.std.proofs.Common.{◌≡◌, ◌∙◌, ◌<◌, ℕ, List, [], ap, arith, false, refl, sym}
use Rattle.sp_bits.specs.Places.{members_below}
use Rattle.sp_dag.specs.Numbered.{Numbered, graph_of}
use Rattle.sp_dag.proofs.Ranked.{ancestors_lower, past_members}
use Rattle.sp_model.specs.Graph.{Graph, has, in_past}
use Rattle.sp_view.proofs.Idling.{idle_apart, idle_out, none_apart}
use Rattle.sp_view.proofs.runs.is_idle.Goals as goal

pub returns-then-not-test : goal.returns-then-not-test
returns-then-not-test c = λ _ before x less unrelated j. idle_out (graph_of c.args.dag.now) c.args.b before c.args.members.now x c.args.second (sym c.test.ensures.value ∙ c.if-not-test.true)

pub returns-in-None : goal.returns-in-None
returns-in-None c = λ _ before x less unrelated j.
    let table : Numbered = c.args.dag.now in
    let g : Graph = graph_of table in
    let reads : (z : ℕ) → has c.past-past.result.now z ≡ in_past g z c.args.b =
    λ z. ap (λ (l : List ℕ). has l z) c.past-past.ensures ∙ past_members table z c.args.b c.len-blocks.ensures.numbered.order c.requires.b_in in
    let reads' : (z : ℕ) → has c.past.result.now z ≡ in_past g z c.args.second =
    λ z. ap (λ (l : List ℕ). has l z) c.past.ensures ∙ past_members table z c.args.second c.len-blocks.ensures.numbered.order c.requires.second_in in
    let above : in_past g c.args.second c.args.b ≡ false = sym (reads c.args.second) ∙ sym c.test-2.ensures.value ∙ c.if-test.false in
    let none : members_below c.without.new.self c.args.second ≡ [] = c.highest_below.ensures.none.0 (rw c.in-None.is refl) in
    idle_apart g c.args.b before c.args.members.now x c.args.second j (sym c.test.ensures.value ∙ c.if-not-test.false) less (omega arith) above
    (none_apart g c.args.b c.args.second c.past-past.result.now c.past.result.now c.without.new.self x reads reads'
    (λ z m. (let lower : z < c.args.b = ancestors_lower table z c.args.b c.len-blocks.ensures.numbered.order c.requires.b_in (sym (reads z) ∙ m) in omega (arith, lower, c.len-blocks.ensures.numbered.small, c.requires.b_in)))
    c.without.ensures none less unrelated (λ e. omega arith))
