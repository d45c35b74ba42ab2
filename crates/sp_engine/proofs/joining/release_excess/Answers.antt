use Rattle.std.proofs.Common.{◌≡◌, ◌<◌, ◌∙◌, ◌+◌, ◌*◌, ℕ, ap, refl, sym, subst, arith, length, get_or, List}
use Rattle.sp_bits.specs.Places.{IsGreatest}
use Rattle.sp_view.specs.Stored.{live}
use Rattle.sp_view.specs.Views.{Viewed, held}
use Rattle.sp_engine.specs.Votes.{bytes_of, entries_of, most_bytes, WereBeside}
use Rattle.sp_engine.proofs.Covered.{held_without, views_without}
use Rattle.sp_engine.proofs.LetGo.{entries_without, is_same, left_first, left_next}
use Rattle.sp_engine.proofs.joining.release_excess.Goals as goal

pub views-init : goal.views-init
views-init c = record {
  shorter = omega arith;
  left = λ table front tips all from order small at is each. left_first table order small front tips all from c.args.since c.args.rows.now c.args.views.now.items is each;
  two = λ few. (refl, refl);
  views = λ table n are. are;
  counts = λ r. omega arith;
  rows = λ r some. refl;
}

pub index-requires : goal.index-requires
index-requires c = omega (arith, (c.is_excess.ensures.more c.views-test.true).0, c.as_slice.ensures.len)

pub release-requires : goal.release-requires
release-requires c = λ r.
    let xs = c.views.views.items in
    let lt : c.args.place < length xs = omega (arith, (c.is_excess.ensures.more c.views-test.true).0, ap length c.as_slice.ensures.value) in
    let same : held (get_or xs c.args.place c.remove.result).entries r ≡ held c.remove.result.entries r = ap (λ (v : Viewed). held v.entries r) (sym c.remove.ensures.value) in
    omega (arith, same, c.requires.counts r, c.views.invariant.counts r, held_without xs c.remove.new.self.items c.args.place c.remove.result c.remove.ensures.by_index.2 lt r)

pub views-preserved : goal.views-preserved
views-preserved c =
    let xs = c.views.views.items in
    let over = c.is_excess.ensures.more c.views-test.true in
    let long : c.args.place + 2 < length xs = omega (arith, over.0, ap length c.as_slice.ensures.value) in
    let lt : c.args.place < length xs = omega (arith, long) in
    let same : (r : ℕ) → held (get_or xs c.args.place c.remove.result).entries r ≡ held c.remove.result.entries r = λ r. ap (λ (v : Viewed). held v.entries r) (sym c.remove.ensures.value) in
    let counts : (r : ℕ) → _ = λ r. held_without xs c.remove.new.self.items c.args.place c.remove.result c.remove.ensures.by_index.2 lt r in
    let entries : entries_of xs ≡ entries_of c.remove.new.self.items + length (get_or xs c.args.place c.remove.result).entries = entries_without xs c.remove.new.self.items c.args.place c.remove.result c.remove.ensures.by_index.2 lt in
    let more : most_bytes < 64 * live c.views.rows + 12 * entries_of xs = subst (λ (l : List Viewed). most_bytes < bytes_of c.views.rows l) c.as_slice.ensures.value over.1 in
    let beside : WereBeside c.release.new.pool c.remove.new.self.items (get_or xs c.args.place c.remove.result) = record {
      pool = c.views.rows;
      sound = c.live-live.ensures.rows;
      counts = λ r. omega (arith, same r, c.release.ensures.counts r);
      more = omega (arith, more, entries);
    } in
    record {
      shorter = omega (arith, c.views.invariant.shorter, c.remove.ensures.len);
      left = λ table front tips all from order small at is each.
          left_next table order small front tips all from c.args.since c.views.rows c.release.new.pool xs c.remove.new.self.items c.views.from c.behind-from.result c.args.place c.remove.result at
          (c.views.invariant.left table front tips all from order small at is each) long c.remove.ensures.by_index.2
          (λ top greatest. c.behind-from.ensures top (subst (λ (l : List ℕ). IsGreatest l top) (ap (λ (v : Viewed). v.members) (is_same xs c.args.place c.remove.result c.index.result.now lt ∙ sym c.index.ensures) ∙ sym c.members.ensures) greatest)) beside;
      two = λ few. absurd (omega (arith, few, long, c.views.invariant.shorter, c.views.views.ok.0));
      views = λ table n are. views_without xs c.remove.new.self.items c.args.place c.remove.result c.remove.ensures.by_index.2 lt table c.views.rows c.release.new.pool n
          (λ r. omega (arith, c.requires.counts r, same r, counts r, c.views.invariant.counts r, c.release.ensures.counts r))
          (λ r some. c.release.ensures.rows r (omega (arith, some, c.requires.counts r, same r, counts r, c.views.invariant.counts r, c.release.ensures.counts r))) (c.views.invariant.views table n are);
      counts = λ r. omega (arith, same r, counts r, c.views.invariant.counts r, c.release.ensures.counts r);
      rows = λ r some. c.release.ensures.rows r some ∙ c.views.invariant.rows r (omega (arith, some, c.release.ensures.counts r));
    }
