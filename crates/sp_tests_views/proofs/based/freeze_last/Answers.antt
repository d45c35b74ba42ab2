use Rattle.std.proofs.Common.{◌≡◌, ◌<◌, ◌-◌, ◌∙◌, ℕ, List, true, ap, sym, arith}
use Rattle.sp_model.specs.Graph.{has}
use Rattle.sp_frozen.specs.PastVotes.{signs_of}
use Rattle.sp_view.proofs.Listing.{view_listed}
use Rattle.sp_tests_views.proofs.Pasts.{past_asked, past_lower}
use Rattle.sp_tests_views.proofs.based.freeze_last.Goals as goal

pub derive-requires-clause-asked : goal.derive-requires-clause-asked
derive-requires-clause-asked c =
    past_asked c.args.dag.now (c.len-b.result - 1) c.len-b.ensures.numbered.order (omega (arith, c.len-b.ensures.value, c.len-b.ensures.numbered.some)) c.past-past.result.now c.past-past.ensures
    c.count-members.ensures.row

pub derive-requires-clause-added : goal.derive-requires-clause-added
derive-requires-clause-added c = λ z h.
    let less : z < c.len-b.result - 1 =
    past_lower c.args.dag.now (c.len-b.result - 1) c.len-b.ensures.numbered.order (omega (arith, c.len-b.ensures.value, c.len-b.ensures.numbered.some)) c.past-past.result.now c.past-past.ensures z h in
    omega (arith, less, c.requires.next, c.len-b.ensures.value)

pub past_votes-requires-clause-listed : goal.past_votes-requires-clause-listed
past_votes-requires-clause-listed c =
    view_listed c.args.dag.now c.in_ok-view.view c.derive.new.pool c.args.frozen.now c.in_ok-view.ensures.ok c.requires.frozen (λ z h.
    let there : has c.past-past.result.now z ≡ true = ap (λ (l : List ℕ). has l z) (sym c.in_ok-view.ensures.members) ∙ h in
    let less : z < c.len-b.result - 1 =
    past_lower c.args.dag.now (c.len-b.result - 1) c.len-b.ensures.numbered.order (omega (arith, c.len-b.ensures.value, c.len-b.ensures.numbered.some)) c.past-past.result.now c.past-past.ensures z there in
    omega (arith, less, c.requires.next, c.len-b.ensures.value))

pub add-requires-clause-votes : goal.add-requires-clause-votes
add-requires-clause-votes c =
    c.in_ok-votes.ensures c.args.dag.now c.in_ok-view.ensures.ok c.requires.frozen (λ z h.
    let there : has c.past-past.result.now z ≡ true = ap (λ (l : List ℕ). has l z) (sym c.in_ok-view.ensures.members) ∙ h in
    let less : z < c.len-b.result - 1 =
    past_lower c.args.dag.now (c.len-b.result - 1) c.len-b.ensures.numbered.order (omega (arith, c.len-b.ensures.value, c.len-b.ensures.numbered.some)) c.past-past.result.now c.past-past.ensures z there in
    omega (arith, less, c.requires.next, c.len-b.ensures.value))
    ∙ ap (signs_of c.args.dag.now) (c.in_ok-view.ensures.members ∙ c.past-past.ensures)
