use Rattle.std.proofs.Common.{◌≡◌, ◌<◌, ◌≤◌, ◌+◌, ℕ, List, Option, arith, length, subst, sym, inl, true}
use Rattle.sp_dag.specs.Numbered.{Numbered, graph_of, pairs_of}
use Rattle.sp_frozen.specs.Voters.{FrozenRows, HoldsFrozen}
use Rattle.sp_model.specs.Graph.{has}
use Rattle.sp_view.specs.Moving.{moved_rows}
use Rattle.sp_view.specs.Stored.{count_of, live}
use Rattle.sp_view.specs.Views.{Viewed, held, AreKeptIds, IsView}
use Rattle.sp_view.specs.Voting.{IsGrown}
use Rattle.sp_view.proofs.Opening.{above_within, left_from, left_out, left_there}
use Rattle.sp_view.proofs.Starting.{start_one, start_within, view_start}
use Rattle.sp_view.proofs.view.View.derive.Goals as goal

-- a set of added blocks of a table
below_all : (table : Numbered) (frozen : FrozenRows) (set : List ℕ) → HoldsFrozen table frozen → ((z : ℕ) → has set z ≡ true → z < frozen.blocks) → (z : ℕ) → has set z ≡ true → z < length table.parents
below_all table frozen set holds added z h = omega (arith, added z h, holds.within)

pub pasts_of-below-requires : goal.pasts_of-below-requires
pasts_of-below-requires c = λ b h.
    let below = below_all c.args.dag.now c.args.frozen.now c.args.target.now c.requires.frozen c.requires.added in
    let inside : (z : ℕ) → has c.args.target.now z ≡ true → z < 512 = λ z h. (let lt = below z h in omega (arith, lt, c.len-blocks.ensures.numbered.small)) in
    below b (left_from c.args.target.now c.members-members.result.now c.without.new.self b (inside b) c.without.ensures h)

pub invariant_of-growth : goal.invariant_of-growth
invariant_of-growth c =
    let base : Viewed = c.start-base.result.now in
    let view : IsView c.args.dag.now base c.args.pool.now =
    view_start c.args.dag.now c.args.views.now c.args.target.now c.args.pool.now base c.len-blocks.ensures.numbered.order c.start-base.ensures c.requires.views in
    let below = below_all c.args.dag.now c.args.frozen.now c.args.target.now c.requires.frozen c.requires.added in
    let inside : (z : ℕ) → has c.args.target.now z ≡ true → z < 512 = λ z h. (let lt = below z h in omega (arith, lt, c.len-blocks.ensures.numbered.small)) in
    let blocks : List ℕ = c.without.new.self in
    let member : (b : ℕ) → has blocks b ≡ true → has c.args.target.now b ≡ true = λ b h. left_from c.args.target.now c.members-members.result.now blocks b (inside b) c.without.ensures h in
    record {
      grown = subst (λ (l : List ℕ). IsGrown c.args.dag.now c.args.frozen.now l c.args.target.now) (sym c.members-members.ensures)
          (record {
            voting = record { order = view.order; asked = c.requires.asked; below = below; held = c.requires.frozen; added = c.requires.added };
            asked = view.asked;
            into = start_within c.args.views.now c.args.target.now base c.start-base.ensures;
          });
      growth = record {
        member = member;
        new = λ b h. left_out c.args.target.now c.members-members.result.now blocks b (inside b) c.without.ensures h;
        all = λ b there new. left_there c.args.target.now c.members-members.result.now blocks b (inside b) c.without.ensures there new;
        covers = c.pasts_of-below.ensures.covers;
        within = λ z h. above_within (graph_of c.args.dag.now) c.args.target.now (has blocks) c.requires.asked.down member z (c.pasts_of-below.ensures.only z h);
      };
    }

pub derive_entries-requires-clause-entry : goal.derive_entries-requires-clause-entry
derive_entries-requires-clause-entry c =
    let base : Viewed = c.start-base.result.now in
    let view : IsView c.args.dag.now base c.args.pool.now =
    view_start c.args.dag.now c.args.views.now c.args.target.now c.args.pool.now base c.len-blocks.ensures.numbered.order c.start-base.ensures c.requires.views in
    rw (c.members-members.ensures, c.entries.ensures.same) view.entry

pub derive_entries-requires-clause-live : goal.derive_entries-requires-clause-live
derive_entries-requires-clause-live c = λ r.
    let base : Viewed = c.start-base.result.now in
    let view : IsView c.args.dag.now base c.args.pool.now =
    view_start c.args.dag.now c.args.views.now c.args.target.now c.args.pool.now base c.len-blocks.ensures.numbered.order c.start-base.ensures c.requires.views in
    subst (λ (l : List (Option (ℕ × ℕ))). held l r ≤ count_of c.args.pool.now r) (sym c.entries.ensures.same) (view.live r)

pub returns-in-Ok-clause-kept : goal.returns-in-Ok-clause-kept
returns-in-Ok-clause-kept c = λ i base best.
    let from : Viewed = c.start-base.result.now in
    let kept : AreKeptIds c.args.dag.now from.members c.args.target.now from.entries c.derive_entries.new.entries.items =
    subst (λ (l : List (Option (ℕ × ℕ))). AreKeptIds c.args.dag.now from.members c.args.target.now l c.derive_entries.new.entries.items) c.entries.ensures.same
    (subst (λ (l : List ℕ). AreKeptIds c.args.dag.now l c.args.target.now c.entries.result.now c.derive_entries.new.entries.items) c.members-members.ensures c.in-Ok.ensures.kept) in
    subst (λ (v : Viewed). AreKeptIds c.args.dag.now v.members c.args.target.now v.entries c.derive_entries.new.entries.items)
    (start_one c.args.views.now c.args.target.now from base c.start-base.ensures (inl (i, best))) kept

pub returns-in-Ok-clause-live : goal.returns-in-Ok-clause-live
returns-in-Ok-clause-live c = λ base started.
    let from : Viewed = c.start-base.result.now in
    let same : from ≡ base = start_one c.args.views.now c.args.target.now from base c.start-base.ensures started in
    subst (λ (v : Viewed). live c.derive_entries.new.pool ≤ live c.args.pool.now + moved_rows (graph_of c.args.dag.now) v.members c.args.target.now (pairs_of c.args.dag.now)) same
    (subst (λ (l : List ℕ). live c.derive_entries.new.pool ≤ live c.args.pool.now + moved_rows (graph_of c.args.dag.now) l c.args.target.now (pairs_of c.args.dag.now))
    c.members-members.ensures c.in-Ok.ensures.live)
