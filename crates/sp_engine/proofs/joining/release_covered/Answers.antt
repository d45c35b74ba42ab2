use Rattle.std.proofs.Common.{◌≡◌, ◌<◌, ◌∙◌, ◌++◌, ℕ, List, false, ap, sym, arith, length, get_or}
use Rattle.std.specs.Prelude.{filter}
use Rattle.sp_model.specs.Graph.{has}
use Rattle.sp_view.specs.Views.{Viewed, held}
use Rattle.sp_engine.specs.Votes.{is_top_tip, is_uncovered}
use Rattle.sp_engine.proofs.Covered.{held_without, views_without, without_it}
use Rattle.sp_engine.proofs.Replacing.{below_at, not_covered}
use Rattle.sp_engine.proofs.joining.release_covered.Goals as goal

pub is_covered-requires : goal.is_covered-requires
is_covered-requires c = λ z h.
    let lt : c.views.i < length c.views.views.items = omega (arith, c.views-test.true, c.len.ensures, c.views.views.ok) in
    below_at c.args.dag.now c.views.rows c.requires.views.0 c.views.views.items c.views.i c.index.result.now (c.views.invariant.views c.args.dag.now c.requires.views.0 c.requires.views.1) lt z
    (ap (λ (v : Viewed). has v.members z) (sym c.index.ensures) ∙ ap (λ (l : List ℕ). has l z) (sym c.members.ensures) ∙ h)

pub release-requires : goal.release-requires
release-requires c = λ r.
    let lt : c.views.i < length c.views.views.items = omega (arith, c.views-test.true, c.len.ensures, c.views.views.ok) in
    let same : held (get_or c.views.views.items c.views.i c.remove.result).entries r ≡ held c.remove.result.entries r = ap (λ (v : Viewed). held v.entries r) (sym c.remove.ensures.value) in
    omega (arith, same, c.requires.counts r, c.views.invariant.counts r, held_without c.views.views.items c.remove.new.self.items c.views.i c.remove.result c.remove.ensures.by_index.2 lt r)

pub views-preserved-then-is_covered : goal.views-preserved-then-is_covered
views-preserved-then-is_covered c =
    let xs = c.views.views.items in
    let lt : c.views.i < length xs = omega (arith, c.views-test.true, c.len.ensures, c.views.views.ok) in
    let same : (r : ℕ) → held (get_or xs c.views.i c.remove.result).entries r ≡ held c.remove.result.entries r = λ r. ap (λ (v : Viewed). held v.entries r) (sym c.remove.ensures.value) in
    let counts : (r : ℕ) → _ = λ r. held_without xs c.remove.new.self.items c.views.i c.remove.result c.remove.ensures.by_index.2 lt r in
    let within : is_uncovered c.args.dag.now (get_or xs c.views.i c.index.result.now) ≡ false =
    ap (is_uncovered c.args.dag.now) (sym c.index.ensures) ∙ ap (is_top_tip c.args.dag.now) (sym c.members.ensures)
    ∙ not_covered (is_top_tip c.args.dag.now c.members.result.now) (sym c.is_covered.ensures ∙ c.if-is_covered.true) in
    record {
      place = omega (arith, c.views-test.true, c.len.ensures, c.remove.ensures.len);
      rest = λ front back at is.
          without_it (is_uncovered c.args.dag.now) (front ++ filter (is_uncovered c.args.dag.now) back) xs c.remove.new.self.items c.views.i c.index.result.now c.remove.ensures.by_index.2 lt within
          (c.views.invariant.rest front back at is);
      views = λ table n are. views_without xs c.remove.new.self.items c.views.i c.remove.result c.remove.ensures.by_index.2 lt table c.views.rows c.release.new.pool n
          (λ r. omega (arith, c.requires.counts r, same r, counts r, c.views.invariant.counts r, c.release.ensures.counts r))
          (λ r some. c.release.ensures.rows r (omega (arith, some, c.requires.counts r, same r, counts r, c.views.invariant.counts r, c.release.ensures.counts r))) (c.views.invariant.views table n are);
      counts = λ r. omega (arith, same r, counts r, c.views.invariant.counts r, c.release.ensures.counts r);
      rows = λ r some. c.release.ensures.rows r some ∙ c.views.invariant.rows r (omega (arith, some, c.release.ensures.counts r));
    }
