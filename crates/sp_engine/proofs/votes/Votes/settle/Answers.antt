use Rattle.std.proofs.Common.{◌≡◌, ◌+◌, [], length, refl, sym, subst, arith, inl, inr}
use Rattle.std.proofs.lemmas.Bool.{cases_lt}
use Rattle.sp_engine.specs.Votes.{HaveJoined, Tallied}
use Rattle.sp_engine.proofs.Grown.{grew}
use Rattle.sp_engine.proofs.Settled.{all_first, goes, held_left, left, left_is, lets, settled, since_is, starts, Starts, tips_within}
use Rattle.sp_engine.proofs.votes.Votes.settle.Goals as goal

pub left_of-left-requires : goal.left_of-left-requires
left_of-left-requires c =
    let v : Tallied = record { frozen = c.self.inside.frozen; rows = c.self.inside.rows; views = c.self.inside.views.items; since = c.self.inside.since; sums = c.self.inside.sums } in
    let h : HaveJoined c.args.dag.now c.args.before.blocks c.requires.0 v c.args.before.saved = subst (λ (w : Tallied). HaveJoined c.args.dag.now c.args.before.blocks c.requires.0 w c.args.before.saved) (sym c.self.view_is) c.requires.1 in
    omega (arith, tips_within c.args.dag.now c.args.before.blocks c.requires.0 v c.args.before.saved h c.args.before.tips c.requires.2, c.len.ensures, c.self.inside.views.ok.0)

pub release_between-requires-clause-within : goal.release_between-requires-clause-within
release_between-requires-clause-within c = elim (cases_lt c.args.before.blocks c.self.inside.since) [
  | inl less ↦ omega (arith, c.left_of-left.ensures.go less, c.len.ensures)
  | inr more ↦ omega (arith, c.left_of-left.ensures.stay more, c.len.ensures)
]

pub release_between-requires-clause-counts : goal.release_between-requires-clause-counts
release_between-requires-clause-counts c = λ r.
    let v : Tallied = record { frozen = c.self.inside.frozen; rows = c.self.inside.rows; views = c.self.inside.views.items; since = c.self.inside.since; sums = c.self.inside.sums } in
    let h : HaveJoined c.args.dag.now c.args.before.blocks c.requires.0 v c.args.before.saved = subst (λ (w : Tallied). HaveJoined c.args.dag.now c.args.before.blocks c.requires.0 w c.args.before.saved) (sym c.self.view_is) c.requires.1 in
    omega (arith, h.joining.shared.counts r)

pub release_covered-requires-clause-counts : goal.release_covered-requires-clause-counts
release_covered-requires-clause-counts c = λ r.
    let v : Tallied = record { frozen = c.self.inside.frozen; rows = c.self.inside.rows; views = c.self.inside.views.items; since = c.self.inside.since; sums = c.self.inside.sums } in
    let h : HaveJoined c.args.dag.now c.args.before.blocks c.requires.0 v c.args.before.saved = subst (λ (w : Tallied). HaveJoined c.args.dag.now c.args.before.blocks c.requires.0 w c.args.before.saved) (sym c.self.view_is) c.requires.1 in
    omega (arith, h.joining.shared.counts r, c.release_between.ensures.counts r)

pub release_covered-requires-clause-views : goal.release_covered-requires-clause-views
release_covered-requires-clause-views c =
    let v : Tallied = record { frozen = c.self.inside.frozen; rows = c.self.inside.rows; views = c.self.inside.views.items; since = c.self.inside.since; sums = c.self.inside.sums } in
    let h : HaveJoined c.args.dag.now c.args.before.blocks c.requires.0 v c.args.before.saved = subst (λ (w : Tallied). HaveJoined c.args.dag.now c.args.before.blocks c.requires.0 w c.args.before.saved) (sym c.self.view_is) c.requires.1 in
    (v.frozen.blocks, c.release_between.ensures.views c.args.dag.now v.frozen.blocks h.joining.views)

pub settle_last-requires-clause-counts : goal.settle_last-requires-clause-counts
settle_last-requires-clause-counts c = λ r.
    let v : Tallied = record { frozen = c.self.inside.frozen; rows = c.self.inside.rows; views = c.self.inside.views.items; since = c.self.inside.since; sums = c.self.inside.sums } in
    let h : HaveJoined c.args.dag.now c.args.before.blocks c.requires.0 v c.args.before.saved = subst (λ (w : Tallied). HaveJoined c.args.dag.now c.args.before.blocks c.requires.0 w c.args.before.saved) (sym c.self.view_is) c.requires.1 in
    omega (arith, h.joining.shared.counts r, c.release_between.ensures.counts r, c.release_covered.ensures.counts r)

pub settle_last-requires-clause-saved : goal.settle_last-requires-clause-saved
settle_last-requires-clause-saved c =
    let numbered = c.len-blocks.ensures.numbered in
    let v : Tallied = record { frozen = c.self.inside.frozen; rows = c.self.inside.rows; views = c.self.inside.views.items; since = c.self.inside.since; sums = c.self.inside.sums } in
    let h : HaveJoined c.args.dag.now c.args.before.blocks c.requires.0 v c.args.before.saved = subst (λ (w : Tallied). HaveJoined c.args.dag.now c.args.before.blocks c.requires.0 w c.args.before.saved) (sym c.self.view_is) c.requires.1 in
    let s : Starts c.args.dag.now c.args.before.blocks c.requires.0 v c.args.before.saved h c.release_between.new.views.items =
    starts c.args.dag.now c.args.before.blocks c.requires.0 v c.args.before.saved h c.release_between.new.views.items c.args.before.tips c.left_of-left.result c.requires.2
    (λ less. omega (arith, c.left_of-left.ensures.go less, c.len.ensures, c.self.inside.views.ok.0)) (λ most. omega (arith, c.left_of-left.ensures.stay most, c.len.ensures, c.self.inside.views.ok.0)) c.release_between.ensures.rest in (
      left c.args.dag.now numbered.order numbered.small numbered.some c.args.before.blocks c.requires.0 v c.args.before.saved h c.release_between.new.views.items s,
      h.joining.all,
      left_is c.args.dag.now numbered.order numbered.small numbered.some c.args.before.blocks c.requires.0 v c.args.before.saved h c.release_between.new.views.items s c.release_covered.new.views.items (c.release_covered.ensures.rest [] c.release_between.new.views.items refl refl),
      h.joining.saving.long,
    )

pub release_excess-since-requires : goal.release_excess-since-requires
release_excess-since-requires c = record {
  counts = λ r.
      let numbered = c.len-blocks.ensures.numbered in
      let v : Tallied = record { frozen = c.self.inside.frozen; rows = c.self.inside.rows; views = c.self.inside.views.items; since = c.self.inside.since; sums = c.self.inside.sums } in
      let h : HaveJoined c.args.dag.now c.args.before.blocks c.requires.0 v c.args.before.saved = subst (λ (w : Tallied). HaveJoined c.args.dag.now c.args.before.blocks c.requires.0 w c.args.before.saved) (sym c.self.view_is) c.requires.1 in
      let s : Starts c.args.dag.now c.args.before.blocks c.requires.0 v c.args.before.saved h c.release_between.new.views.items =
      starts c.args.dag.now c.args.before.blocks c.requires.0 v c.args.before.saved h c.release_between.new.views.items c.args.before.tips c.left_of-left.result c.requires.2
      (λ less. omega (arith, c.left_of-left.ensures.go less, c.len.ensures, c.self.inside.views.ok.0)) (λ most. omega (arith, c.left_of-left.ensures.stay most, c.len.ensures, c.self.inside.views.ok.0)) c.release_between.ensures.rest in
      omega (arith, held_left c.args.dag.now numbered.order numbered.small numbered.some c.args.before.blocks c.requires.0 v c.args.before.saved h c.release_between.new.views.items s c.release_covered.new.rows c.settle_last.new.rows c.release_covered.new.views.items c.settle_last.new.views.items (c.release_covered.ensures.rest [] c.release_between.new.views.items refl refl) (λ r. omega (arith, c.release_between.ensures.counts r, c.release_covered.ensures.counts r)) (c.release_covered.ensures.views c.args.dag.now v.frozen.blocks (c.release_between.ensures.views c.args.dag.now v.frozen.blocks h.joining.views)) c.settle_last.ensures.home r);
}

pub returns-clause-voted : goal.returns-clause-voted
returns-clause-voted c =
    let numbered = c.len-blocks.ensures.numbered in
    let v : Tallied = record { frozen = c.self.inside.frozen; rows = c.self.inside.rows; views = c.self.inside.views.items; since = c.self.inside.since; sums = c.self.inside.sums } in
    let h : HaveJoined c.args.dag.now c.args.before.blocks c.requires.0 v c.args.before.saved = subst (λ (w : Tallied). HaveJoined c.args.dag.now c.args.before.blocks c.requires.0 w c.args.before.saved) (sym c.self.view_is) c.requires.1 in
    let s : Starts c.args.dag.now c.args.before.blocks c.requires.0 v c.args.before.saved h c.release_between.new.views.items =
    starts c.args.dag.now c.args.before.blocks c.requires.0 v c.args.before.saved h c.release_between.new.views.items c.args.before.tips c.left_of-left.result c.requires.2
    (λ less. omega (arith, c.left_of-left.ensures.go less, c.len.ensures, c.self.inside.views.ok.0)) (λ most. omega (arith, c.left_of-left.ensures.stay most, c.len.ensures, c.self.inside.views.ok.0)) c.release_between.ensures.rest in
    settled c.args.dag.now numbered.order numbered.small numbered.some c.args.before.blocks c.requires.0 v c.args.before.saved h c.release_between.new.views.items s c.release_covered.new.rows c.settle_last.new.rows c.release_covered.new.views.items c.settle_last.new.views.items (c.release_covered.ensures.rest [] c.release_between.new.views.items refl refl) (λ r. omega (arith, c.release_between.ensures.counts r, c.release_covered.ensures.counts r)) (c.release_covered.ensures.views c.args.dag.now v.frozen.blocks (c.release_between.ensures.views c.args.dag.now v.frozen.blocks h.joining.views)) c.settle_last.ensures.home c.release_excess-since.new.rows c.release_excess-since.new.views.items c.release_excess-since.result (λ front tips all from. c.release_excess-since.ensures.left c.args.dag.now front tips all from numbered.order numbered.small)
    (c.release_excess-since.ensures.views c.args.dag.now v.frozen.blocks) c.release_excess-since.ensures.counts

pub returns-clause-few : goal.returns-clause-few
returns-clause-few c = λ more. c.release_excess-since.ensures.few (omega (arith, more, c.release_excess-since.new.views.ok.0))

pub returns-clause-grew : goal.returns-clause-grew
returns-clause-grew c = λ old joined tips one.
    let numbered = c.len-blocks.ensures.numbered in
    let v : Tallied = record { frozen = c.self.inside.frozen; rows = c.self.inside.rows; views = c.self.inside.views.items; since = c.self.inside.since; sums = c.self.inside.sums } in
    let h : HaveJoined c.args.dag.now c.args.before.blocks old v c.args.before.saved = subst (λ (w : Tallied). HaveJoined c.args.dag.now c.args.before.blocks old w c.args.before.saved) (sym c.self.view_is) joined in
    let s : Starts c.args.dag.now c.args.before.blocks old v c.args.before.saved h c.release_between.new.views.items =
    starts c.args.dag.now c.args.before.blocks old v c.args.before.saved h c.release_between.new.views.items c.args.before.tips c.left_of-left.result tips
    (λ less. omega (arith, c.left_of-left.ensures.go less, c.len.ensures, c.self.inside.views.ok.0)) (λ most. omega (arith, c.left_of-left.ensures.stay most, c.len.ensures, c.self.inside.views.ok.0)) c.release_between.ensures.rest in
    let last : c.args.before.blocks + 1 ≡ length c.args.dag.now.parents = omega (arith, one) in
    let new : Tallied = record { frozen = c.self.inside.frozen; rows = c.release_excess-since.new.rows; views = c.release_excess-since.new.views.items; since = c.release_excess-since.result; sums = c.self.inside.sums } in
    let home = goes c.args.dag.now numbered.order numbered.small numbered.some c.args.before.blocks old v c.args.before.saved h c.release_between.new.views.items s c.release_covered.new.rows c.settle_last.new.rows c.release_covered.new.views.items c.settle_last.new.views.items (c.release_covered.ensures.rest [] c.release_between.new.views.items refl refl) (λ r. omega (arith, c.release_between.ensures.counts r, c.release_covered.ensures.counts r)) (c.release_covered.ensures.views c.args.dag.now v.frozen.blocks (c.release_between.ensures.views c.args.dag.now v.frozen.blocks h.joining.views)) c.settle_last.ensures.home in
    grew c.args.dag.now numbered.order numbered.small c.args.before.blocks last old v new c.args.before.saved h s.firsts home.0
    (all_first c.args.dag.now numbered.order numbered.small numbered.some c.args.before.blocks old v c.args.before.saved h c.release_between.new.views.items s last) home.2 home.3.ids
    (lets c.args.dag.now numbered.order numbered.small numbered.some c.args.before.blocks old v c.args.before.saved h c.release_between.new.views.items s c.release_covered.new.rows c.settle_last.new.rows c.release_covered.new.views.items c.settle_last.new.views.items (c.release_covered.ensures.rest [] c.release_between.new.views.items refl refl) (λ r. omega (arith, c.release_between.ensures.counts r, c.release_covered.ensures.counts r)) (c.release_covered.ensures.views c.args.dag.now v.frozen.blocks (c.release_between.ensures.views c.args.dag.now v.frozen.blocks h.joining.views)) c.settle_last.ensures.home c.release_excess-since.new.rows c.release_excess-since.new.views.items c.release_excess-since.result (λ front tips all from. c.release_excess-since.ensures.left c.args.dag.now front tips all from numbered.order numbered.small))
    (since_is c.args.dag.now numbered.order numbered.small numbered.some c.args.before.blocks old v c.args.before.saved h c.release_between.new.views.items s c.release_covered.new.rows c.settle_last.new.rows c.release_covered.new.views.items c.settle_last.new.views.items (c.release_covered.ensures.rest [] c.release_between.new.views.items refl refl) (λ r. omega (arith, c.release_between.ensures.counts r, c.release_covered.ensures.counts r)) (c.release_covered.ensures.views c.args.dag.now v.frozen.blocks (c.release_between.ensures.views c.args.dag.now v.frozen.blocks h.joining.views)) c.settle_last.ensures.home c.release_excess-since.new.rows c.release_excess-since.new.views.items c.release_excess-since.result (λ front tips all from. c.release_excess-since.ensures.left c.args.dag.now front tips all from numbered.order numbered.small))
    (λ r. omega (arith, held_left c.args.dag.now numbered.order numbered.small numbered.some c.args.before.blocks old v c.args.before.saved h c.release_between.new.views.items s c.release_covered.new.rows c.settle_last.new.rows c.release_covered.new.views.items c.settle_last.new.views.items (c.release_covered.ensures.rest [] c.release_between.new.views.items refl refl) (λ r. omega (arith, c.release_between.ensures.counts r, c.release_covered.ensures.counts r)) (c.release_covered.ensures.views c.args.dag.now v.frozen.blocks (c.release_between.ensures.views c.args.dag.now v.frozen.blocks h.joining.views)) c.settle_last.ensures.home r, c.release_excess-since.ensures.counts r))
