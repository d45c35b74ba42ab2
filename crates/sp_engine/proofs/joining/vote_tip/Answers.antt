use Rattle.std.proofs.Common.{◌≡◌, ◌∙◌, ◌-◌, ℕ, List, ap, sym, arith}
use Rattle.sp_dag.specs.Numbered.{graph_of}
use Rattle.sp_model.specs.Graph.{past}
use Rattle.sp_frozen.specs.PastVotes.{signs_of}
use Rattle.sp_view.proofs.Listing.{view_listed}
use Rattle.sp_engine.specs.Votes.{bar_row}
use Rattle.std.proofs.lemmas.Result.{on_ok_weaker}
use Rattle.sp_engine.proofs.Tips.{past_and_block, past_lower, past_there, past_without}
use Rattle.sp_engine.proofs.joining.vote_tip.Goals as goal

pub past_votes-requires-clause-listed : goal.past_votes-requires-clause-listed
past_votes-requires-clause-listed c =
    view_listed c.args.dag.now c.args.tip.now c.args.rows.now c.args.frozen.now c.requires.view c.requires.frozen
    (past_lower c.args.dag.now c.args.frozen.now.blocks c.len-b.ensures.numbered.order (omega (arith, c.requires.next)) c.args.tip.now.members c.requires.members)

pub past_votes-requires-clause-few : goal.past_votes-requires-clause-few
past_votes-requires-clause-few c = omega (arith, c.requires.view.few, c.pair_count-pairs.ensures.value, c.pair_count-pairs.ensures.bound)

pub add-requires-clause-votes : goal.add-requires-clause-votes
add-requires-clause-votes c =
    let e : c.args.frozen.now.blocks ≡ c.len-b.result - 1 = omega (arith, c.requires.next, c.len-b.ensures.value) in
    c.in_ok-signs.ensures c.args.dag.now c.requires.view c.requires.frozen
    (past_lower c.args.dag.now c.args.frozen.now.blocks c.len-b.ensures.numbered.order (omega (arith, c.requires.next)) c.args.tip.now.members c.requires.members)
    ∙ ap (λ (l : List ℕ). signs_of c.args.dag.now l) (c.requires.members ∙ ap (past (graph_of c.args.dag.now)) e)

pub add-requires-2-clause-new : goal.add-requires-2-clause-new
add-requires-2-clause-new c =
    let e : c.args.frozen.now.blocks ≡ c.len-b.result - 1 = omega (arith, c.requires.next, c.len-b.ensures.value) in
    past_without c.args.dag.now (c.len-b.result - 1) c.len-b.ensures.numbered.order (omega (arith, c.requires.next, c.len-b.ensures.value)) c.args.tip.now.members
    (c.requires.members ∙ ap (past (graph_of c.args.dag.now)) e)

pub add-requires-2-clause-past : goal.add-requires-2-clause-past
add-requires-2-clause-past c =
    let e : c.args.frozen.now.blocks ≡ c.len-b.result - 1 = omega (arith, c.requires.next, c.len-b.ensures.value) in
    past_there c.args.dag.now (c.len-b.result - 1) c.len-b.ensures.numbered.order (omega (arith, c.requires.next, c.len-b.ensures.value)) c.args.tip.now.members
    (c.requires.members ∙ ap (past (graph_of c.args.dag.now)) e)

pub returns-clause-members : goal.returns-clause-members
returns-clause-members c =
    let e : c.args.frozen.now.blocks ≡ c.len-b.result - 1 = omega (arith, c.requires.next, c.len-b.ensures.value) in
    on_ok_weaker c.add-2.result
    (λ is.
    past_and_block c.args.dag.now (c.len-b.result - 1) c.len-b.ensures.numbered.order (omega (arith, c.requires.next, c.len-b.ensures.value)) c.args.tip.now.members
    (c.requires.members ∙ ap (past (graph_of c.args.dag.now)) e) c.add-2.new.self.members is
    ∙ ap (bar_row c.args.dag.now) (sym e))
    c.add-2.ensures.members
