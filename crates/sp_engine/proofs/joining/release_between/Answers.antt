use Rattle.std.proofs.Common.{◌≡◌, ◌<◌, ◌∙◌, ℕ, ap, sym, arith, length, get_or}
use Rattle.sp_view.specs.Views.{Viewed, held}
use Rattle.sp_engine.proofs.Covered.{held_without, views_without}
use Rattle.sp_engine.proofs.Replacing.{one_less}
use Rattle.sp_engine.proofs.joining.release_between.Goals as goal

pub release-requires : goal.release-requires
release-requires c = λ r.
    let lt : c.args.first < length c.views.views.items = omega (arith, c.views-test.true, c.len.ensures, c.views.views.ok) in
    let same : held (get_or c.views.views.items c.args.first c.remove.result).entries r ≡ held c.remove.result.entries r = ap (λ (v : Viewed). held v.entries r) (sym c.remove.ensures.value) in
    omega (arith, same, c.requires.counts r, c.views.invariant.counts r, held_without c.views.views.items c.remove.new.self.items c.args.first c.remove.result c.remove.ensures.by_index.2 lt r)

pub views-preserved : goal.views-preserved
views-preserved c =
    let xs = c.views.views.items in
    let lt : c.args.first < length xs = omega (arith, c.views-test.true, c.len.ensures, c.views.views.ok) in
    let same : (r : ℕ) → held (get_or xs c.args.first c.remove.result).entries r ≡ held c.remove.result.entries r = λ r. ap (λ (v : Viewed). held v.entries r) (sym c.remove.ensures.value) in
    let counts : (r : ℕ) → _ = λ r. held_without xs c.remove.new.self.items c.args.first c.remove.result c.remove.ensures.by_index.2 lt r in
    record {
      place = omega (arith, c.views-test.true, c.len.ensures, c.remove.ensures.len);
      rest = λ front between back first last is.
          let was = c.views.invariant.rest front between back first last is in
          one_less front was.0 back xs c.remove.new.self.items c.args.first first was.1 (omega (arith, last, c.views-test.true, c.len.ensures, c.views.views.ok)) c.remove.ensures.by_index.2;
      views = λ table n are. views_without xs c.remove.new.self.items c.args.first c.remove.result c.remove.ensures.by_index.2 lt table c.views.rows c.release.new.pool n
          (λ r. omega (arith, c.requires.counts r, same r, counts r, c.views.invariant.counts r, c.release.ensures.counts r))
          (λ r some. c.release.ensures.rows r (omega (arith, some, c.requires.counts r, same r, counts r, c.views.invariant.counts r, c.release.ensures.counts r))) (c.views.invariant.views table n are);
      counts = λ r. omega (arith, same r, counts r, c.views.invariant.counts r, c.release.ensures.counts r);
      rows = λ r some. c.release.ensures.rows r some ∙ c.views.invariant.rows r (omega (arith, some, c.release.ensures.counts r));
    }
