use Rattle.std.proofs.Common.{◌≡◌, ◌∙◌, ◌<◌, ◌≤◌, ◌-◌, ◌+◌, ℕ, List, ◌∷◌, ap, sym, arith, subst, length}
use Rattle.sp_dag.specs.Numbered.{Numbered, graph_of, pairs_of}
use Rattle.sp_model.specs.Graph.{past}
use Rattle.sp_view.specs.Views.{AreKeptIds, IsBest, Viewed}
use Rattle.sp_engine.specs.Votes.{AreKeptIdsBy, AreViews}
use Rattle.sp_engine.proofs.Beside.{counted, few_counted, few_live_beside, shared_derived, shared_grown}
use Rattle.sp_engine.proofs.Sharing.{view_of, views_move}
use Rattle.sp_engine.proofs.Tips.{kept_by_two, others_stay, past_asked, past_lower}
use Rattle.sp_engine.proofs.joining.new_tip.Goals as goal

pub derive-requires-clause-views : goal.derive-requires-clause-views
derive-requires-clause-views c = λ i view at. (view_of c.args.dag.now c.args.rows.now c.args.frozen.now.blocks c.args.views.now i view c.requires.views at).0

pub derive-requires-clause-counts : goal.derive-requires-clause-counts
derive-requires-clause-counts c = λ i view at r some.
    omega (
      arith,
      few_counted c.args.dag.now c.args.rows.now c.args.views.now c.requires.shared.0 c.requires.shared.1 c.args.frozen.now.blocks c.requires.views r,
      c.requires.few,
    )

pub derive-requires-clause-asked : goal.derive-requires-clause-asked
derive-requires-clause-asked c =
    past_asked c.args.dag.now (c.len-b.result - 1) c.len-b.ensures.numbered.order (omega (arith, c.len-b.ensures.value, c.len-b.ensures.numbered.some)) c.past-past.result.now c.past-past.ensures
    c.count-members.ensures.row

pub derive-requires-clause-added : goal.derive-requires-clause-added
derive-requires-clause-added c = λ z h.
    let less : z < c.len-b.result - 1 =
    past_lower c.args.dag.now (c.len-b.result - 1) c.len-b.ensures.numbered.order (omega (arith, c.len-b.ensures.value, c.len-b.ensures.numbered.some)) c.past-past.result.now c.past-past.ensures z h in
    omega (arith, less, c.requires.next, c.len-b.ensures.value)

pub derive-requires-clause-few : goal.derive-requires-clause-few
derive-requires-clause-few c =
    let small : length (pairs_of c.args.dag.now) ≤ 130816 = omega (arith, c.pair_count-pairs.ensures.value, c.pair_count-pairs.ensures.bound) in
    omega (
      arith,
      few_live_beside c.args.dag.now c.args.rows.now c.args.views.now c.requires.shared.0 c.requires.shared.1 c.args.frozen.now.blocks small c.requires.views c.live-live.ensures.rows,
      c.requires.few,
    )

pub vote_tip-requires-clause-few : goal.vote_tip-requires-clause-few
vote_tip-requires-clause-few c =
    let table : Numbered = c.args.dag.now in
    let small : length (pairs_of table) ≤ 130816 = omega (arith, c.pair_count-pairs.ensures.value, c.pair_count-pairs.ensures.bound) in
    let tip : Viewed = c.in_ok-tip.tip in
    let lower = past_lower table (c.len-b.result - 1) c.len-b.ensures.numbered.order (omega (arith, c.len-b.ensures.value, c.len-b.ensures.numbered.some)) tip.members
    (c.in_ok-tip.ensures.members ∙ c.past-past.ensures) in
    let shared = c.requires.shared.1 in
    let others : AreViews table c.derive.new.pool c.args.frozen.now.blocks c.args.views.now =
    views_move table c.args.rows.now c.args.frozen.now.blocks c.derive.new.pool c.args.views.now
    (λ r. omega (arith, shared.counts r, c.in_ok-tip.ensures.counts r))
    (λ r some. c.in_ok-tip.ensures.rows r (omega (arith, some, shared.counts r)))
    c.requires.views in
    omega (
      arith,
      few_live_beside table c.derive.new.pool (tip ∷ c.args.views.now) c.requires.shared.0
          (shared_derived table c.args.rows.now c.args.views.now c.requires.shared.0 shared c.derive.new.pool tip c.in_ok-tip.ensures.counts) c.args.frozen.now.blocks
          small
          (c.in_ok-tip.ensures.ok, (λ z h. (let less : z < c.len-b.result - 1 = lower z h in omega (arith, less, c.requires.next, c.len-b.ensures.value))), others)
          c.live-derived.ensures.rows,
      c.requires.few,
    )

pub returns-in-Ok-clause-views : goal.returns-in-Ok-clause-views
returns-in-Ok-clause-views c =
    let table : Numbered = c.args.dag.now in
    let tip : Viewed = c.in_ok-tip.tip in (
      c.in-Ok.ensures.view,
      (λ z h. (let less : z < length table.parents = c.in-Ok.ensures.view.below z h in omega (arith, less, c.requires.next, c.in-Ok.ensures.blocks))),
      subst (λ (n : ℕ). AreViews table c.vote_tip.new.rows n c.args.views.now) (let e : c.args.frozen.now.blocks + 1 ≡ c.vote_tip.new.frozen.blocks = omega (arith, c.in-Ok.ensures.blocks) in e)
          (others_stay table c.args.rows.now c.derive.new.pool c.vote_tip.new.rows c.args.frozen.now.blocks c.args.views.now tip c.vote_tip.new.tip
          (counted table c.args.rows.now c.args.views.now c.requires.shared.0 c.requires.shared.1) c.in_ok-tip.ensures.counts c.in_ok-tip.ensures.rows c.in-Ok.ensures.counts c.in-Ok.ensures.others c.requires.views),
    )

pub returns-in-Ok-clause-shared : goal.returns-in-Ok-clause-shared
returns-in-Ok-clause-shared c = λ saved shared.
    let table : Numbered = c.args.dag.now in
    let views : List Viewed = c.args.views.now in
    let tip : Viewed = c.in_ok-tip.tip in
    let derived = shared_derived table c.args.rows.now views saved shared c.derive.new.pool tip c.in_ok-tip.ensures.counts in
    shared_grown table c.derive.new.pool views saved tip c.vote_tip.new.tip c.vote_tip.new.rows derived c.in-Ok.ensures.counts

pub returns-in-Ok-clause-kept : goal.returns-in-Ok-clause-kept
returns-in-Ok-clause-kept c = λ i base best.
    let table : Numbered = c.args.dag.now in
    let at_b : c.len-b.result - 1 ≡ c.args.frozen.now.blocks = omega (arith, c.requires.next, c.len-b.ensures.value) in
    let is : c.past-past.result.now ≡ past (graph_of table) c.args.frozen.now.blocks = c.past-past.ensures ∙ ap (past (graph_of table)) at_b in
    subst (λ (mid : List ℕ). AreKeptIdsBy table base.members mid c.vote_tip.new.tip.members base.entries c.vote_tip.new.tip.entries) is
    (kept_by_two table base.members c.past-past.result.now c.vote_tip.new.tip.members base.entries c.in_ok-tip.tip.entries c.vote_tip.new.tip.entries
    (c.in_ok-tip.ensures.kept i base (subst (λ (mid : List ℕ). IsBest c.args.views.now mid i base) (sym is) best))
    (subst (λ (mid : List ℕ). AreKeptIds table mid c.vote_tip.new.tip.members c.in_ok-tip.tip.entries c.vote_tip.new.tip.entries) c.in_ok-tip.ensures.members c.in-Ok.ensures.kept))
