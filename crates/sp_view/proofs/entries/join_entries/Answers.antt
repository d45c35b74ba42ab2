use Rattle.std.proofs.Common.{◌≡◌, ◌∙◌, ◌<◌, ◌≤◌, ◌+◌, ℕ, List, Option, Some, None, ap, arith, get_or, length, refl, subst, sym, get_or-set_other}
use Rattle.std.specs.Prelude.{ℤ, slice_get, vec_len, IfSome}
use Rattle.std.proofs.lemmas.Bool.{lt-ltb, le-ltb}
use Rattle.sp_dag.specs.Numbered.{Numbered, graph_of, pairs_of}
use Rattle.sp_model.specs.Graph.{Graph}
use Rattle.sp_view.specs.Stored.{count_of}
use Rattle.sp_view.specs.Summed.{IsSum}
use Rattle.sp_view.specs.Views.{entry_at, holds, held, IsEntry}
use Rattle.sp_view.proofs.Behind.{entries_end, sums_end}
use Rattle.sp_view.proofs.Fresh.{fresh_none}
use Rattle.sp_view.proofs.Held.{holds_held, if_there, keeps_itself, read_at, some_pair}
use Rattle.sp_view.proofs.Idling.{entries_idle, sums_idle}
use Rattle.sp_view.specs.Saved.{IsSaving}
use Rattle.sp_view.proofs.Keeping.{own, saving_still}
use Rattle.sp_view.proofs.JoinedEntries.{IsPassing, IsTurn, alive_still, counts_few, counts_next, entries_next, fresh_next, kept_next, live_most, moves_taken, once_next, others_stay, patched_next, rows_next, saved_more, spare_least, sums_next}
use Rattle.sp_view.proofs.Moves.{moved_take, moved_take_le}
use Rattle.sp_view.proofs.Patched.{length_patched}
use Rattle.sp_view.proofs.entries.join_entries.Goals as goal

pub step_entry-step-requires-clause-inside : goal.step_entry-step-requires-clause-inside
step_entry-step-requires-clause-inside c =
    let table : Numbered = c.args.join.now.set.dag.now in
    let inside : c.pairs.place.pair < length c.pairs.entries.items = omega (arith, c.pairs.entries.ok.0) in
    let listed : c.pairs.place.pair < length (pairs_of table) = omega (arith, c.requires.long) in
    let pair = get_or (pairs_of table) c.pairs.place.pair (0, 0) in
    let at : slice_get (pairs_of table) c.pairs.place.pair ≡ Some (pair.0, pair.1) = some_pair (pairs_of table) c.pairs.place.pair listed in
    subst (λ (e : Option (ℕ × ℕ)). IfSome e (λ _. c.pairs.place.pair < length c.args.join.now.set.frozen.now.pluses))
    (sym (c.pairs.invariant.unturned c.pairs.place.pair (omega arith)) ∙ sym (read_at c.pairs.entries.items c.pairs.place.pair c.index-entry.result.now inside c.index-entry.ensures))
    (if_there (entry_at c.args.entries.now.items c.pairs.place.pair) (pair.1 < c.args.join.now.set.frozen.now.blocks) (c.pairs.place.pair < length c.args.join.now.set.frozen.now.pluses)
    (c.requires.inside c.pairs.place.pair pair.0 pair.1 at) (λ y_in. c.args.join.now.joined.voting.held.there c.pairs.place.pair pair.0 pair.1 at y_in))

pub step_entry-step-requires-clause-live : goal.step_entry-step-requires-clause-live
step_entry-step-requires-clause-live c = λ r.
    let inside : c.pairs.place.pair < length c.pairs.entries.items = omega (arith, c.pairs.entries.ok.0) in
    subst (λ (e : Option (ℕ × ℕ)). holds e r ≤ count_of c.pairs.pool r) (sym (read_at c.pairs.entries.items c.pairs.place.pair c.index-entry.result.now inside c.index-entry.ensures))
    (omega (arith, holds_held c.pairs.entries.items c.pairs.place.pair r, c.pairs.invariant.counts r, c.requires.live r))

pub step_entry-step-requires-clause-entry : goal.step_entry-step-requires-clause-entry
step_entry-step-requires-clause-entry c = λ x y at.
    let table : Numbered = c.args.join.now.set.dag.now in
    let inside : c.pairs.place.pair < length c.pairs.entries.items = omega (arith, c.pairs.entries.ok.0) in
    let now : IsEntry (graph_of table) c.args.join.now.before.now x y c.pairs.pool (entry_at c.pairs.entries.items c.pairs.place.pair) = rw (le-ltb c.pairs.place.pair c.pairs.place.pair (omega arith)) at (c.pairs.invariant.entry c.pairs.place.pair x y at) in
    subst (λ (e : Option (ℕ × ℕ)). IsEntry (graph_of table) c.args.join.now.before.now x y c.pairs.pool e) (sym (read_at c.pairs.entries.items c.pairs.place.pair c.index-entry.result.now inside c.index-entry.ensures)) now

pub step_entry-step-requires-clause-room : goal.step_entry-step-requires-clause-room
step_entry-step-requires-clause-room c = λ x y at.
    let pairs = pairs_of c.args.join.now.set.dag.now in
    let g : Graph = graph_of c.args.join.now.set.dag.now in
    omega (
      arith,
      c.pairs.invariant.room,
      c.requires.room,
      moved_take g c.args.join.now.before.now c.args.join.now.set.members.now pairs c.pairs.place.pair x y at,
      moved_take_le g c.args.join.now.before.now c.args.join.now.set.members.now pairs (c.pairs.place.pair + 1),
    )

pub step_entry-step-requires-clause-sum : goal.step_entry-step-requires-clause-sum
step_entry-step-requires-clause-sum c = λ x y at.
    subst (λ (o : Option ℤ). IsSum (graph_of c.args.join.now.set.dag.now) c.args.join.now.before.now x y o) (sym c.get-sum.ensures)
    (rw (le-ltb c.pairs.place.pair c.pairs.place.pair (omega arith)) at (c.pairs.invariant.sums c.pairs.place.pair x y at))

pub note_sum-requires-clause-live : goal.note_sum-requires-clause-live
note_sum-requires-clause-live c = λ r.
    let inside : c.pairs.place.pair < length c.pairs.entries.items = omega (arith, c.pairs.entries.ok.0) in
    let e_is : c.index-entry.result.now ≡ entry_at c.pairs.entries.items c.pairs.place.pair = read_at c.pairs.entries.items c.pairs.place.pair c.index-entry.result.now inside c.index-entry.ensures in
    let counted : (r : ℕ) → holds c.index-entry.result.now r ≤ count_of c.pairs.pool r =
    λ r. omega (arith, ap (λ (e : Option (ℕ × ℕ)). holds e r) e_is, holds_held c.pairs.entries.items c.pairs.place.pair r, c.pairs.invariant.counts r, c.requires.live r) in
    own c.pairs.pool c.step_entry-step.new.pool c.pairs.place.pair c.index-entry.result.now c.step_entry-step.result.entry c.pairs.saved c.step_entry-step.new.saved counted c.step_entry-step.ensures.step r

pub note_sum-requires-clause-sum : goal.note_sum-requires-clause-sum
note_sum-requires-clause-sum c = λ x y at. rw (le-ltb c.pairs.place.pair c.pairs.place.pair (omega arith)) at (c.pairs.invariant.sums c.pairs.place.pair x y at)

pub pairs-init : goal.pairs-init
pairs-init c = record {
  at = c.busy_from-place.ensures.place;
  long = refl;
  unturned = λ j _. refl;
  entry =
      entries_idle c.args.join.now.set.dag.now c.args.join.now.b c.args.join.now.before.now c.args.join.now.set.members.now c.args.join.now.joined.joins 0 c.busy_from-place.result.pair (omega arith)
      (λ k x y at _ less. c.busy_from-place.ensures.idle c.args.join.now.before.now k x y at c.args.join.now.joined.joins (omega arith) less)
      c.args.pool.now c.args.entries.now.items c.args.join.now.joined.row c.args.join.now.joined.voting.asked (λ k x y at. rw (le-ltb k 0 (omega arith)) (c.requires.entry k x y at));
  kept = λ k x y at. keeps_itself (graph_of c.args.join.now.set.dag.now) c.args.join.now.before.now c.args.join.now.set.members.now x y (entry_at c.args.entries.now.items k);
  counts = λ r. refl;
  patched_is = refl;
  saved_rows = λ r _. refl;
  few = λ r. omega arith;
  more = λ r. omega arith;
  others = λ r _. refl;
  alive = λ r h. h;
  once = c.requires.once;
  fresh = fresh_none c.args.entries.now.items c.args.pool.now;
  live = omega arith;
  room = omega arith;
  as_long = refl;
  sums =
      sums_idle c.args.join.now.set.dag.now c.args.join.now.b c.args.join.now.before.now c.args.join.now.set.members.now c.args.join.now.joined.joins 0 c.busy_from-place.result.pair (omega arith)
      (λ k x y at _ less. c.busy_from-place.ensures.idle c.args.join.now.before.now k x y at c.args.join.now.joined.joins (omega arith) less)
      c.args.sums.now (λ j x y at. rw (le-ltb j 0 (omega arith)) (c.requires.sums j x y at));
}

-- ---- one pair more, as the lemmas on it take it

turn : (c : goal.After-go_on)
    → IsTurn c.pairs.pool c.step_entry-step.new.pool c.pairs.entries.items c.pairs.place.pair c.index-entry.result.now c.step_entry-step.result.entry c.pairs.saved c.step_entry-step.new.saved
turn c =
    let inside : c.pairs.place.pair < length c.pairs.entries.items = omega (arith, c.pairs.entries.ok.0) in
    record {
      inside = inside;
      read = read_at c.pairs.entries.items c.pairs.place.pair c.index-entry.result.now inside c.index-entry.ensures;
      enough = λ r. omega (arith, c.pairs.invariant.counts r, c.requires.live r);
      step = c.step_entry-step.ensures.step;
    }

passing : (c : goal.After-go_on) → IsPassing c.args.join.now.set.dag.now c.args.join.now.b c.args.join.now.before.now c.args.join.now.set.members.now c.pairs.place.pair c.go_on.new.place.pair
passing c = record {
  joins = c.args.join.now.joined.joins;
  row = c.args.join.now.joined.row;
  asked = c.args.join.now.joined.voting.asked;
  later = (let less : c.pairs.place.pair < c.go_on.new.place.pair = c.go_on.ensures.later in omega arith);
  idle = λ k x y at more less. c.go_on.ensures.idle c.args.join.now.before.now k x y at c.args.join.now.joined.joins (omega arith) less;
}

-- still only so many may be saved as there are entries
saving : (c : goal.After-go_on) → IsSaving c.pairs.saved c.pairs.entries.items
saving c =
    saving_still c.args.saved.now c.pairs.saved c.args.entries.now.items c.pairs.entries.items c.pairs.invariant.patched_is
    (omega (arith, c.pairs.invariant.long, c.pairs.entries.ok.0, c.args.entries.now.ok.0)) c.requires.saved

pub pairs-preserved : goal.pairs-preserved
pairs-preserved c =
    let i : ℕ = c.pairs.place.pair in
    let t = turn c in
    let p = passing c in
    let step = c.step_entry-step.ensures in
    let known = c.pairs.invariant in
    let unturned = known.unturned i (omega arith) in
    let moves = moves_taken p t (omega (arith, c.requires.long)) step.entry step.kept known.entry in
    record {
      at = c.go_on.ensures.place;
      long = known.long;
      unturned = λ j le. get_or-set_other c.pairs.entries.items i j c.step_entry-step.result.entry None (λ e. omega arith) ∙ known.unturned j (omega arith);
      entry = entries_next p t step.entry known.entry;
      kept = kept_next p t c.args.entries.now.items unturned step.kept known.kept;
      counts = λ r. omega (arith, counts_next t r, known.counts r);
      patched_is = patched_next t (saving c) ∙ known.patched_is;
      saved_rows = λ r some.
          rows_next t (saving c) r (omega (arith, some, ap (λ (l : List (Option (ℕ × ℕ))). held l r) known.patched_is))
          ∙ known.saved_rows r some;
      more = λ r. omega (arith, known.more r, saved_more t r);
      few = λ r. omega (arith, counts_few t r, known.few r, p.later);
      others = λ r more. others_stay t r (omega (arith, more, holds_held c.pairs.entries.items i r, known.counts r, known.more r)) ∙ known.others r more;
      alive = λ r some. alive_still t r (known.alive r some);
      once = λ r. once_next t r (known.once r);
      fresh = fresh_next t c.args.entries.now.items c.args.pool.now unturned known.alive step.fresh known.fresh;
      live = omega (arith, live_most t, moves, known.live);
      as_long = c.note_sum.ensures.as_long ∙ known.as_long;
      sums = sums_next p c.pairs.sums c.note_sum.new.sums c.note_sum.ensures.others c.note_sum.ensures.sum known.sums;
      room = omega (arith, spare_least t, moves, known.room);
    }

pub returns : goal.returns
returns c =
    let n : ℕ = vec_len c.args.entries.now in
    record {
      long = c.pairs.invariant.long;
      entry = entries_end c.args.join.now.set.dag.now c.args.join.now.set.members.now n c.requires.none c.pairs.pool c.pairs.entries.items (omega (arith, c.pairs.entries.ok.0, c.pairs.invariant.long))
          (λ j x y less at. rw (lt-ltb j c.pairs.place.pair (omega (arith, less))) at (c.pairs.invariant.entry j x y at));
      kept = c.pairs.invariant.kept;
      counts = c.pairs.invariant.counts;
      patched = c.pairs.invariant.patched_is;
      saved_rows = c.pairs.invariant.saved_rows;
      others = c.pairs.invariant.others;
      once = c.pairs.invariant.once;
      fresh = c.pairs.invariant.fresh;
      sums = sums_end c.args.join.now.set.dag.now c.args.join.now.set.members.now n c.requires.none c.args.join.now.before.now c.pairs.place.pair c.pairs.sums (omega arith) c.pairs.invariant.sums;
      as_long = c.pairs.invariant.as_long;
      live = omega (arith, c.pairs.invariant.live, moved_take_le (graph_of c.args.join.now.set.dag.now) c.args.join.now.before.now c.args.join.now.set.members.now (pairs_of c.args.join.now.set.dag.now) c.pairs.place.pair);
    }

pub step_entry-step-requires-clause-few : goal.step_entry-step-requires-clause-few
step_entry-step-requires-clause-few c = λ less r.
    let long : length c.pairs.saved ≡ length c.args.saved.now =
    sym (length_patched c.pairs.saved c.pairs.entries.items) ∙ ap length c.pairs.invariant.patched_is ∙ length_patched c.args.saved.now c.args.entries.now.items in
    omega (arith, c.requires.few (omega (arith, less, long)) r, c.pairs.invariant.few r, c.pairs-test.true, c.pair_count-pairs.ensures.value, c.pair_count-pairs.ensures.bound, c.requires.long)
