use Rattle.std.proofs.Common.{◌≡◌, ◌∙◌, FitsSigned, Some, ap, arith, inl, inr, refl, get_or, of_z, rules, sym, to_z}
use Rattle.std.specs.Prelude.{pos, negsuc, slice_get, ◌≤ℤ◌}
use Rattle.std.specs.Int.{w32}
use Rattle.std.proofs.lemmas.Int.{ints, to_z-of_z}
use Rattle.sp_dag.specs.Numbered.{Numbered, graph_of, pairs_of}
use Rattle.sp_model.specs.Votes.{sgn, vote}
use Rattle.sp_model.proofs.Loose.{vote_sign}
use Rattle.sp_view.specs.Stored.{row_of}
use Rattle.sp_view.proofs.Held.{keeps_itself, some_pair}
use Rattle.sp_view.proofs.JoinedSums.{sum_small}
use Rattle.sp_view.proofs.JoinedVotes.{sign_small, up_told}
use Rattle.sp_view.proofs.Keeping.{anew_saved, old_saved}
use Rattle.sp_view.proofs.Turning.{after_small, before_small, both_votes, kept_small, own_small, root_before, told_by, turn_gain, turn_still}
use Rattle.sp_view.proofs.old_pairs.opened_entry.Goals as goal

pub root_turn-requires-clause-small : goal.root_turn-requires-clause-small
root_turn-requires-clause-small c =
    let table : Numbered = c.args.join.now.set.dag.now in
    let pair = get_or (pairs_of table) c.args.known.now.pair (0, 0) in
    let at : slice_get (pairs_of table) c.args.known.now.pair ≡ Some (pair.0, pair.1) = some_pair (pairs_of table) c.args.known.now.pair c.requires.listed in
    kept_small (graph_of table) c.args.join.now.before.now pair.0 pair.1 c.args.known.now.sum (c.requires.sum pair.0 pair.1 at) (c.requires.rows.inside pair.0 pair.1 at)
    (sum_small table c.args.join.now.set.frozen.now c.args.join.now.b c.args.join.now.before.now c.args.join.now.set.members.now c.args.known.now.pair pair.0 pair.1 c.args.join.now.joined at c.requires.inside)

pub root_turn-requires-clause-sign : goal.root_turn-requires-clause-sign
root_turn-requires-clause-sign c =
    let table : Numbered = c.args.join.now.set.dag.now in
    let f : FitsSigned w32 c.args.own = search rules in
    let same : to_z w32 (of_z w32 c.args.own) ≡ c.args.own = to_z-of_z w32 c.args.own f in
    let pair = get_or (pairs_of table) c.args.known.now.pair (0, 0) in
    let at : slice_get (pairs_of table) c.args.known.now.pair ≡ Some (pair.0, pair.1) = some_pair (pairs_of table) c.args.known.now.pair c.requires.listed in
    let own : c.args.own ≡ vote (graph_of table) c.args.join.now.set.members.now c.args.join.now.b pair.0 pair.1 = c.requires.own pair.0 pair.1 at in
    let small : (negsuc 0 ≤ℤ c.args.own) × (c.args.own ≤ℤ pos 1) =
    sign_small c.args.own (ap sgn own ∙ vote_sign (graph_of table) c.args.join.now.set.members.now c.args.join.now.b pair.0 pair.1 c.args.join.now.joined.joins.more_down c.args.join.now.joined.joins.there ∙ sym own) in
    rw same small

pub returns-then-turn-clause-rows : goal.returns-then-turn-clause-rows
returns-then-turn-clause-rows c = record {
  sides = λ x y at.
      let table : Numbered = c.args.join.now.set.dag.now in
      let fo : FitsSigned w32 c.args.own = search rules in
      let told = told_by (graph_of table) c.args.join.now.before.now x y c.args.own _ c.in-Some.turn.before c.in-Some.turn.after c.args.known.now.sum (to_z-of_z w32 _ fo) c.in-Some.ensures.some c.in-Some.ensures.votes (c.requires.sum x y at) (c.requires.rows.inside x y at) in
      let small = before_small table c.args.join.now.set.frozen.now c.args.join.now.b c.args.join.now.before.now c.args.join.now.set.members.now c.args.known.now.pair x y c.len-blocks.ensures.numbered c.args.join.now.joined at (c.requires.rows.inside x y at)
      (row_of c.args.pool.now c.args.known.now.entry.0) (row_of c.args.pool.now c.args.known.now.entry.1) c.args.todo.now (c.requires.rows.sides x y at) (c.requires.anew.opened x y at) (c.requires.anew.kept x y at) c.in-Some.ensures.lone
      c.args.own c.in-Some.turn.before c.in-Some.turn.after (c.requires.own x y at) told in
      let small' = after_small table c.args.join.now.set.frozen.now c.args.join.now.b c.args.join.now.before.now c.args.join.now.set.members.now c.args.known.now.pair x y c.len-blocks.ensures.numbered c.args.join.now.joined at (c.requires.rows.inside x y at)
      (row_of c.args.pool.now c.args.known.now.entry.0) (row_of c.args.pool.now c.args.known.now.entry.1) c.args.todo.now (c.requires.rows.sides x y at) (c.requires.anew.opened x y at) (c.requires.anew.kept x y at) c.in-Some.ensures.lone
      c.args.own c.in-Some.turn.before c.in-Some.turn.after (c.requires.own x y at) told in
      let f : FitsSigned w32 c.in-Some.turn.before = omega (arith, ints, small.0, small.1) in
      let f' : FitsSigned w32 c.in-Some.turn.after = omega (arith, ints, small'.0, small'.1) in
      turn_still table c.args.join.now.set.frozen.now c.args.join.now.b c.args.join.now.before.now c.args.join.now.set.members.now c.args.known.now.pair x y c.len-blocks.ensures.numbered c.args.join.now.joined at (c.requires.rows.inside x y at)
      (row_of c.args.pool.now c.args.known.now.entry.0) (row_of c.args.pool.now c.args.known.now.entry.1) c.args.todo.now (c.requires.rows.sides x y at) (c.requires.anew.opened x y at) (c.requires.anew.kept x y at) c.in-Some.ensures.lone
      c.args.own c.in-Some.turn.before c.in-Some.turn.after (c.requires.own x y at) told
      (sym (to_z-of_z w32 _ f) ∙ ap (to_z w32) c.if-turn.true ∙ to_z-of_z w32 _ f');
  kept = λ x y _. keeps_itself (graph_of c.args.join.now.set.dag.now) c.args.join.now.before.now c.args.join.now.set.members.now x y (Some c.args.known.now.entry);
}

pub returns-then-turn-clause-step : goal.returns-then-turn-clause-step
returns-then-turn-clause-step c = inr (refl, refl, refl)

pub returns-then-turn-clause-gain : goal.returns-then-turn-clause-gain
returns-then-turn-clause-gain c = λ x y at.
    let table : Numbered = c.args.join.now.set.dag.now in
    let fo : FitsSigned w32 c.args.own = search rules in
    let told = told_by (graph_of table) c.args.join.now.before.now x y c.args.own _ c.in-Some.turn.before c.in-Some.turn.after c.args.known.now.sum (to_z-of_z w32 _ fo) c.in-Some.ensures.some c.in-Some.ensures.votes (c.requires.sum x y at) (c.requires.rows.inside x y at) in
    let small = before_small table c.args.join.now.set.frozen.now c.args.join.now.b c.args.join.now.before.now c.args.join.now.set.members.now c.args.known.now.pair x y c.len-blocks.ensures.numbered c.args.join.now.joined at (c.requires.rows.inside x y at)
    (row_of c.args.pool.now c.args.known.now.entry.0) (row_of c.args.pool.now c.args.known.now.entry.1) c.args.todo.now (c.requires.rows.sides x y at) (c.requires.anew.opened x y at) (c.requires.anew.kept x y at) c.in-Some.ensures.lone
    c.args.own c.in-Some.turn.before c.in-Some.turn.after (c.requires.own x y at) told in
    let small' = after_small table c.args.join.now.set.frozen.now c.args.join.now.b c.args.join.now.before.now c.args.join.now.set.members.now c.args.known.now.pair x y c.len-blocks.ensures.numbered c.args.join.now.joined at (c.requires.rows.inside x y at)
    (row_of c.args.pool.now c.args.known.now.entry.0) (row_of c.args.pool.now c.args.known.now.entry.1) c.args.todo.now (c.requires.rows.sides x y at) (c.requires.anew.opened x y at) (c.requires.anew.kept x y at) c.in-Some.ensures.lone
    c.args.own c.in-Some.turn.before c.in-Some.turn.after (c.requires.own x y at) told in
    let f : FitsSigned w32 c.in-Some.turn.before = omega (arith, ints, small.0, small.1) in
    let f' : FitsSigned w32 c.in-Some.turn.after = omega (arith, ints, small'.0, small'.1) in
    let same : c.in-Some.turn.before ≡ c.in-Some.turn.after = sym (to_z-of_z w32 _ f) ∙ ap (to_z w32) c.if-turn.true ∙ to_z-of_z w32 _ f' in
    let gain = turn_gain table c.args.join.now.set.frozen.now c.args.join.now.b c.args.join.now.before.now c.args.join.now.set.members.now c.args.known.now.pair x y c.len-blocks.ensures.numbered c.args.join.now.joined at (c.requires.rows.inside x y at)
    (row_of c.args.pool.now c.args.known.now.entry.0) (row_of c.args.pool.now c.args.known.now.entry.1) c.args.todo.now (c.requires.rows.sides x y at) (c.requires.anew.opened x y at) (c.requires.anew.kept x y at) c.in-Some.ensures.lone
    c.args.own c.in-Some.turn.before c.in-Some.turn.after (c.requires.own x y at) told in
    record { inside = c.requires.rows.inside x y at; sum_is = omega (arith, ints, gain, same, to_z-of_z w32 _ fo) }

pub turned_entry-plus-requires-clause-root : goal.turned_entry-plus-requires-clause-root
turned_entry-plus-requires-clause-root c =
    let table : Numbered = c.args.join.now.set.dag.now in
    let pair = get_or (pairs_of table) c.args.known.now.pair (0, 0) in
    let at : slice_get (pairs_of table) c.args.known.now.pair ≡ Some (pair.0, pair.1) = some_pair (pairs_of table) c.args.known.now.pair c.requires.listed in
    let fo : FitsSigned w32 c.args.own = search rules in
    let told = told_by (graph_of table) c.args.join.now.before.now pair.0 pair.1 c.args.own _ c.in-Some.turn.before c.in-Some.turn.after c.args.known.now.sum (to_z-of_z w32 _ fo) c.in-Some.ensures.some c.in-Some.ensures.votes (c.requires.sum pair.0 pair.1 at) (c.requires.rows.inside pair.0 pair.1 at) in
    root_before table c.args.join.now.set.frozen.now c.args.join.now.b c.args.join.now.before.now c.args.join.now.set.members.now c.args.known.now.pair pair.0 pair.1 c.len-blocks.ensures.numbered c.args.join.now.joined at (c.requires.rows.inside pair.0 pair.1 at)
    (row_of c.args.pool.now c.args.known.now.entry.0) (row_of c.args.pool.now c.args.known.now.entry.1) c.args.todo.now (c.requires.rows.sides pair.0 pair.1 at) (c.requires.anew.opened pair.0 pair.1 at) (c.requires.anew.kept pair.0 pair.1 at) c.in-Some.ensures.lone
    c.args.own c.in-Some.turn.before c.in-Some.turn.after (c.requires.own pair.0 pair.1 at) told

pub turned_entry-plus-requires-clause-votes : goal.turned_entry-plus-requires-clause-votes
turned_entry-plus-requires-clause-votes c = λ x y at.
    let table : Numbered = c.args.join.now.set.dag.now in
    let fo : FitsSigned w32 c.args.own = search rules in
    let told = told_by (graph_of table) c.args.join.now.before.now x y c.args.own _ c.in-Some.turn.before c.in-Some.turn.after c.args.known.now.sum (to_z-of_z w32 _ fo) c.in-Some.ensures.some c.in-Some.ensures.votes (c.requires.sum x y at) (c.requires.rows.inside x y at) in
    both_votes table c.args.join.now.set.frozen.now c.args.join.now.b c.args.join.now.before.now c.args.join.now.set.members.now c.args.known.now.pair x y c.len-blocks.ensures.numbered c.args.join.now.joined at (c.requires.rows.inside x y at)
    (row_of c.args.pool.now c.args.known.now.entry.0) (row_of c.args.pool.now c.args.known.now.entry.1) c.args.todo.now (c.requires.rows.sides x y at) (c.requires.anew.opened x y at) (c.requires.anew.kept x y at) c.in-Some.ensures.lone
    c.args.own c.in-Some.turn.before c.in-Some.turn.after (c.requires.own x y at) told

pub overflow_sub-gain : goal.overflow_sub-gain
overflow_sub-gain c =
    let table : Numbered = c.args.join.now.set.dag.now in
    let pair = get_or (pairs_of table) c.args.known.now.pair (0, 0) in
    let at : slice_get (pairs_of table) c.args.known.now.pair ≡ Some (pair.0, pair.1) = some_pair (pairs_of table) c.args.known.now.pair c.requires.listed in
    let fo : FitsSigned w32 c.args.own = search rules in
    let told = told_by (graph_of table) c.args.join.now.before.now pair.0 pair.1 c.args.own _ c.in-Some.turn.before c.in-Some.turn.after c.args.known.now.sum (to_z-of_z w32 _ fo) c.in-Some.ensures.some c.in-Some.ensures.votes (c.requires.sum pair.0 pair.1 at) (c.requires.rows.inside pair.0 pair.1 at) in
    let small = before_small table c.args.join.now.set.frozen.now c.args.join.now.b c.args.join.now.before.now c.args.join.now.set.members.now c.args.known.now.pair pair.0 pair.1 c.len-blocks.ensures.numbered c.args.join.now.joined at (c.requires.rows.inside pair.0 pair.1 at)
    (row_of c.args.pool.now c.args.known.now.entry.0) (row_of c.args.pool.now c.args.known.now.entry.1) c.args.todo.now (c.requires.rows.sides pair.0 pair.1 at) (c.requires.anew.opened pair.0 pair.1 at) (c.requires.anew.kept pair.0 pair.1 at) c.in-Some.ensures.lone
    c.args.own c.in-Some.turn.before c.in-Some.turn.after (c.requires.own pair.0 pair.1 at) told in
    let small' = after_small table c.args.join.now.set.frozen.now c.args.join.now.b c.args.join.now.before.now c.args.join.now.set.members.now c.args.known.now.pair pair.0 pair.1 c.len-blocks.ensures.numbered c.args.join.now.joined at (c.requires.rows.inside pair.0 pair.1 at)
    (row_of c.args.pool.now c.args.known.now.entry.0) (row_of c.args.pool.now c.args.known.now.entry.1) c.args.todo.now (c.requires.rows.sides pair.0 pair.1 at) (c.requires.anew.opened pair.0 pair.1 at) (c.requires.anew.kept pair.0 pair.1 at) c.in-Some.ensures.lone
    c.args.own c.in-Some.turn.before c.in-Some.turn.after (c.requires.own pair.0 pair.1 at) told in
    let f : FitsSigned w32 c.in-Some.turn.before = omega (arith, ints, small.0, small.1) in
    let f' : FitsSigned w32 c.in-Some.turn.after = omega (arith, ints, small'.0, small'.1) in
    omega (arith, ints, small.0, small.1, small'.0, small'.1, to_z-of_z w32 _ f, to_z-of_z w32 _ f')

pub overflow_add-gain : goal.overflow_add-gain
overflow_add-gain c =
    let table : Numbered = c.args.join.now.set.dag.now in
    let pair = get_or (pairs_of table) c.args.known.now.pair (0, 0) in
    let at : slice_get (pairs_of table) c.args.known.now.pair ≡ Some (pair.0, pair.1) = some_pair (pairs_of table) c.args.known.now.pair c.requires.listed in
    let fo : FitsSigned w32 c.args.own = search rules in
    let told = told_by (graph_of table) c.args.join.now.before.now pair.0 pair.1 c.args.own _ c.in-Some.turn.before c.in-Some.turn.after c.args.known.now.sum (to_z-of_z w32 _ fo) c.in-Some.ensures.some c.in-Some.ensures.votes (c.requires.sum pair.0 pair.1 at) (c.requires.rows.inside pair.0 pair.1 at) in
    let small = before_small table c.args.join.now.set.frozen.now c.args.join.now.b c.args.join.now.before.now c.args.join.now.set.members.now c.args.known.now.pair pair.0 pair.1 c.len-blocks.ensures.numbered c.args.join.now.joined at (c.requires.rows.inside pair.0 pair.1 at)
    (row_of c.args.pool.now c.args.known.now.entry.0) (row_of c.args.pool.now c.args.known.now.entry.1) c.args.todo.now (c.requires.rows.sides pair.0 pair.1 at) (c.requires.anew.opened pair.0 pair.1 at) (c.requires.anew.kept pair.0 pair.1 at) c.in-Some.ensures.lone
    c.args.own c.in-Some.turn.before c.in-Some.turn.after (c.requires.own pair.0 pair.1 at) told in
    let small' = after_small table c.args.join.now.set.frozen.now c.args.join.now.b c.args.join.now.before.now c.args.join.now.set.members.now c.args.known.now.pair pair.0 pair.1 c.len-blocks.ensures.numbered c.args.join.now.joined at (c.requires.rows.inside pair.0 pair.1 at)
    (row_of c.args.pool.now c.args.known.now.entry.0) (row_of c.args.pool.now c.args.known.now.entry.1) c.args.todo.now (c.requires.rows.sides pair.0 pair.1 at) (c.requires.anew.opened pair.0 pair.1 at) (c.requires.anew.kept pair.0 pair.1 at) c.in-Some.ensures.lone
    c.args.own c.in-Some.turn.before c.in-Some.turn.after (c.requires.own pair.0 pair.1 at) told in
    let own = own_small table c.args.join.now.set.frozen.now c.args.join.now.b c.args.join.now.before.now c.args.join.now.set.members.now c.args.known.now.pair pair.0 pair.1 c.len-blocks.ensures.numbered c.args.join.now.joined at (c.requires.rows.inside pair.0 pair.1 at)
    (row_of c.args.pool.now c.args.known.now.entry.0) (row_of c.args.pool.now c.args.known.now.entry.1) c.args.todo.now (c.requires.rows.sides pair.0 pair.1 at) (c.requires.anew.opened pair.0 pair.1 at) (c.requires.anew.kept pair.0 pair.1 at) c.in-Some.ensures.lone
    c.args.own c.in-Some.turn.before c.in-Some.turn.after (c.requires.own pair.0 pair.1 at) told in
    let f : FitsSigned w32 c.in-Some.turn.before = omega (arith, ints, small.0, small.1) in
    let f' : FitsSigned w32 c.in-Some.turn.after = omega (arith, ints, small'.0, small'.1) in
    omega (arith, ints, small.0, small.1, small'.0, small'.1, own.0, own.1, to_z-of_z w32 _ f, to_z-of_z w32 _ f', to_z-of_z w32 _ fo)

pub returns-else-turn-clause-gain : goal.returns-else-turn-clause-gain
returns-else-turn-clause-gain c = λ x y at.
    let table : Numbered = c.args.join.now.set.dag.now in
    let fo : FitsSigned w32 c.args.own = search rules in
    let told = told_by (graph_of table) c.args.join.now.before.now x y c.args.own _ c.in-Some.turn.before c.in-Some.turn.after c.args.known.now.sum (to_z-of_z w32 _ fo) c.in-Some.ensures.some c.in-Some.ensures.votes (c.requires.sum x y at) (c.requires.rows.inside x y at) in
    let small = before_small table c.args.join.now.set.frozen.now c.args.join.now.b c.args.join.now.before.now c.args.join.now.set.members.now c.args.known.now.pair x y c.len-blocks.ensures.numbered c.args.join.now.joined at (c.requires.rows.inside x y at)
    (row_of c.args.pool.now c.args.known.now.entry.0) (row_of c.args.pool.now c.args.known.now.entry.1) c.args.todo.now (c.requires.rows.sides x y at) (c.requires.anew.opened x y at) (c.requires.anew.kept x y at) c.in-Some.ensures.lone
    c.args.own c.in-Some.turn.before c.in-Some.turn.after (c.requires.own x y at) told in
    let small' = after_small table c.args.join.now.set.frozen.now c.args.join.now.b c.args.join.now.before.now c.args.join.now.set.members.now c.args.known.now.pair x y c.len-blocks.ensures.numbered c.args.join.now.joined at (c.requires.rows.inside x y at)
    (row_of c.args.pool.now c.args.known.now.entry.0) (row_of c.args.pool.now c.args.known.now.entry.1) c.args.todo.now (c.requires.rows.sides x y at) (c.requires.anew.opened x y at) (c.requires.anew.kept x y at) c.in-Some.ensures.lone
    c.args.own c.in-Some.turn.before c.in-Some.turn.after (c.requires.own x y at) told in
    let own = own_small table c.args.join.now.set.frozen.now c.args.join.now.b c.args.join.now.before.now c.args.join.now.set.members.now c.args.known.now.pair x y c.len-blocks.ensures.numbered c.args.join.now.joined at (c.requires.rows.inside x y at)
    (row_of c.args.pool.now c.args.known.now.entry.0) (row_of c.args.pool.now c.args.known.now.entry.1) c.args.todo.now (c.requires.rows.sides x y at) (c.requires.anew.opened x y at) (c.requires.anew.kept x y at) c.in-Some.ensures.lone
    c.args.own c.in-Some.turn.before c.in-Some.turn.after (c.requires.own x y at) told in
    let f : FitsSigned w32 c.in-Some.turn.before = omega (arith, ints, small.0, small.1) in
    let f' : FitsSigned w32 c.in-Some.turn.after = omega (arith, ints, small'.0, small'.1) in
    let gain = turn_gain table c.args.join.now.set.frozen.now c.args.join.now.b c.args.join.now.before.now c.args.join.now.set.members.now c.args.known.now.pair x y c.len-blocks.ensures.numbered c.args.join.now.joined at (c.requires.rows.inside x y at)
    (row_of c.args.pool.now c.args.known.now.entry.0) (row_of c.args.pool.now c.args.known.now.entry.1) c.args.todo.now (c.requires.rows.sides x y at) (c.requires.anew.opened x y at) (c.requires.anew.kept x y at) c.in-Some.ensures.lone
    c.args.own c.in-Some.turn.before c.in-Some.turn.after (c.requires.own x y at) told in
    record {
      inside = c.requires.rows.inside x y at;
      sum_is = omega (arith, ints, gain, small.0, small.1, small'.0, small'.1, own.0, own.1, to_z-of_z w32 _ f, to_z-of_z w32 _ f', to_z-of_z w32 _ fo);
    }

pub turned_entry-plus-requires-clause-rows : goal.turned_entry-plus-requires-clause-rows
turned_entry-plus-requires-clause-rows c =
    old_saved c.args.join.now.set.dag.now c.args.join.now.before.now c.args.join.now.set.members.now c.args.known.now.pair c.args.pool.now c.save.new.pool c.args.known.now.pair c.args.known.now.entry c.args.saved.now c.save.new.self c.save.ensures c.requires.rows

pub turned_entry-plus-requires-clause-anew : goal.turned_entry-plus-requires-clause-anew
turned_entry-plus-requires-clause-anew c =
    anew_saved c.args.join.now.set.dag.now c.args.join.now.before.now c.args.join.now.set.members.now c.args.known.now.pair c.args.pool.now c.save.new.pool c.args.known.now.pair c.args.known.now.entry c.args.saved.now c.save.new.self c.save.ensures c.args.todo.now c.requires.anew

pub asked_entry-plus-requires-clause-rows : goal.asked_entry-plus-requires-clause-rows
asked_entry-plus-requires-clause-rows c =
    old_saved c.args.join.now.set.dag.now c.args.join.now.before.now c.args.join.now.set.members.now c.args.known.now.pair c.args.pool.now c.save-in-None.new.pool c.args.known.now.pair c.args.known.now.entry c.args.saved.now c.save-in-None.new.self c.save-in-None.ensures c.requires.rows

pub asked_entry-plus-requires-clause-anew : goal.asked_entry-plus-requires-clause-anew
asked_entry-plus-requires-clause-anew c =
    anew_saved c.args.join.now.set.dag.now c.args.join.now.before.now c.args.join.now.set.members.now c.args.known.now.pair c.args.pool.now c.save-in-None.new.pool c.args.known.now.pair c.args.known.now.entry c.args.saved.now c.save-in-None.new.self c.save-in-None.ensures c.args.todo.now c.requires.anew

pub returns-else-turn-clause-step : goal.returns-else-turn-clause-step
returns-else-turn-clause-step c = inl (c.save.new.pool, c.save.ensures, c.turned_entry-plus.ensures.step)

pub returns-in-None-clause-step : goal.returns-in-None-clause-step
returns-in-None-clause-step c = inl (c.save-in-None.new.pool, c.save-in-None.ensures, c.asked_entry-plus.ensures.step)

pub asked_entry-plus-requires-clause-vote : goal.asked_entry-plus-requires-clause-vote
asked_entry-plus-requires-clause-vote c = λ x y at.
    let f : FitsSigned w32 c.args.own = search rules in
    up_told (vote (graph_of c.args.join.now.set.dag.now) c.args.join.now.set.members.now c.args.join.now.b x y) _ (to_z-of_z w32 _ f ∙ c.requires.own x y at)
    (vote_sign (graph_of c.args.join.now.set.dag.now) c.args.join.now.set.members.now c.args.join.now.b x y c.args.join.now.joined.joins.more_down c.args.join.now.joined.joins.there)
    (λ none. c.requires.some (c.requires.own x y at ∙ none))
