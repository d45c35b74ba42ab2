use Rattle.std.proofs.Common.{Some, ◌≡◌, ◌≢◌, ◌<◌, ◌∙◌, FitsSigned, List, [], ℕ, Option, ap, arith, inr, of_z, refl, rules, subst, sym, to_z, true}
use Rattle.std.specs.Prelude.{ℤ, pos, slice_get, unwrap_or, ◌+ℤ◌}
use Rattle.std.specs.Int.{w32}
use Rattle.std.proofs.lemmas.Int.{to_z-of_z}
use Rattle.sp_bits.specs.Places.{difference}
use Rattle.sp_dag.specs.Numbered.{IsPair, Numbered, graph_of, pairs_of}
use Rattle.sp_dag.proofs.Ranked.{pair_kind}
use Rattle.sp_model.specs.Graph.{Graph, has, in_past}
use Rattle.sp_model.specs.Votes.{vote}
use Rattle.sp_model.proofs.Joined.{tie_stays}
use Rattle.sp_model.proofs.Loose.{vote_sign}
use Rattle.sp_view.specs.Settled.{AreKept, AreOpen}
use Rattle.sp_view.specs.Sums.{sum_of}
use Rattle.sp_view.specs.Stored.{row_of}
use Rattle.sp_view.proofs.Free.{pair_is}
use Rattle.sp_view.proofs.Held.{keeps_itself}
use Rattle.sp_view.proofs.JoinedRows.{tie_sides, unasked_sides}
use Rattle.sp_view.proofs.JoinedVotes.{kept_votes, sum_stays, up_told}
use Rattle.sp_view.proofs.old_pairs.joined_entry.Goals as goal

pub returns-then-own-eq0-clause-rows : goal.returns-then-own-eq0-clause-rows
returns-then-own-eq0-clause-rows c = record {
  sides = λ x y at.
      let table : Numbered = c.args.join.now.set.dag.now in
      let g : Graph = graph_of table in
      let f : FitsSigned w32 c.own_vote-own.result = search rules in
      let own : c.own_vote-own.result ≡ vote g c.args.join.now.set.members.now c.args.join.now.b x y =
      c.own_vote-own.ensures x y at (c.requires.rows.inside x y at) in
      let kind : IsPair table (x, y) = pair_kind table c.args.place.now.pair (x, y) at in
      let apart : x ≢ y = λ e. (let le : x < y = kind.order in omega arith) in
      let tie : vote g c.args.join.now.set.members.now c.args.join.now.b x y ≡ pos 0 = sym own ∙ sym (to_z-of_z w32 _ f) ∙ ap (to_z w32) c.if-own-eq0.true in
      tie_sides g c.args.join.now.b c.args.join.now.before.now c.args.join.now.set.members.now x y (row_of c.args.pool.now c.args.entry.0) (row_of c.args.pool.now c.args.entry.1)
      c.args.join.now.joined.joins apart c.args.join.now.joined.row c.args.join.now.joined.voting.asked (c.requires.rows.sides x y at) tie;
  kept = λ x y _. keeps_itself (graph_of c.args.join.now.set.dag.now) c.args.join.now.before.now c.args.join.now.set.members.now x y (Some c.args.entry);
}

pub returns-then-own-eq0-clause-step : goal.returns-then-own-eq0-clause-step
returns-then-own-eq0-clause-step c = inr (refl, refl, refl)

pub returns-then-own-eq0-clause-gain : goal.returns-then-own-eq0-clause-gain
returns-then-own-eq0-clause-gain c = λ x y at.
    let table : Numbered = c.args.join.now.set.dag.now in
    let g : Graph = graph_of table in
    let f : FitsSigned w32 c.own_vote-own.result = search rules in
    let own : c.own_vote-own.result ≡ vote g c.args.join.now.set.members.now c.args.join.now.b x y =
    c.own_vote-own.ensures x y at (c.requires.rows.inside x y at) in
    let kind : IsPair table (x, y) = pair_kind table c.args.place.now.pair (x, y) at in
    let apart : x ≢ y = λ e. (let le : x < y = kind.order in omega arith) in
    let tie : vote g c.args.join.now.set.members.now c.args.join.now.b x y ≡ pos 0 = sym own ∙ sym (to_z-of_z w32 _ f) ∙ ap (to_z w32) c.if-own-eq0.true in
    record {
      inside = c.requires.rows.inside x y at;
      sum_is = sum_stays g c.args.join.now.b c.args.join.now.before.now c.args.join.now.set.members.now x y c.args.join.now.joined.joins (tie_stays g c.args.join.now.b c.args.join.now.before.now c.args.join.now.set.members.now c.args.join.now.joined.joins x y apart tie)
          ∙ ap (λ (n : ℤ). sum_of g c.args.join.now.before.now x y +ℤ n) tie;
    }

pub returns-in-None-clause-rows : goal.returns-in-None-clause-rows
returns-in-None-clause-rows c = record {
  sides = λ x y at.
      let table : Numbered = c.args.join.now.set.dag.now in
      let g : Graph = graph_of table in
      let f : FitsSigned w32 c.own_vote-own.result = search rules in
      let own : c.own_vote-own.result ≡ vote g c.args.join.now.set.members.now c.args.join.now.b x y =
      c.own_vote-own.ensures x y at (c.requires.rows.inside x y at) in
      let up = up_told (vote g c.args.join.now.set.members.now c.args.join.now.b x y) _ (to_z-of_z w32 _ f ∙ own) (vote_sign g c.args.join.now.set.members.now c.args.join.now.b x y c.args.join.now.joined.joins.more_down c.args.join.now.joined.joins.there)
      (λ none. c.if-own-eq0.false (ap (of_z w32) (own ∙ none))) in
      let kept : AreKept g c.args.join.now.set.members.now x y (has []) (difference (row_of c.args.pool.now c.args.entry.0) []) (difference (row_of c.args.pool.now c.args.entry.1) []) =
      subst (λ (o : Option (List ℕ)). AreKept g c.args.join.now.set.members.now x y (has (unwrap_or o [])) (difference (row_of c.args.pool.now c.args.entry.0) (unwrap_or o [])) (difference (row_of c.args.pool.now c.args.entry.1) (unwrap_or o []))) c.in-None.is
      (c.asked.ensures.kept x y at (c.requires.rows.sides x y at) up).1 in
      unasked_sides g c.args.join.now.before.now c.args.join.now.set.members.now x y (row_of c.args.pool.now c.args.entry.0) (row_of c.args.pool.now c.args.entry.1) c.args.join.now.joined.row c.args.join.now.joined.voting.asked (c.requires.rows.sides x y at) kept;
  kept = λ x y _. keeps_itself (graph_of c.args.join.now.set.dag.now) c.args.join.now.before.now c.args.join.now.set.members.now x y (Some c.args.entry);
}

pub returns-in-None-clause-step : goal.returns-in-None-clause-step
returns-in-None-clause-step c = inr (refl, refl, refl)

pub returns-in-None-clause-gain : goal.returns-in-None-clause-gain
returns-in-None-clause-gain c = λ x y at.
    let table : Numbered = c.args.join.now.set.dag.now in
    let g : Graph = graph_of table in
    let f : FitsSigned w32 c.own_vote-own.result = search rules in
    let own : c.own_vote-own.result ≡ vote g c.args.join.now.set.members.now c.args.join.now.b x y =
    c.own_vote-own.ensures x y at (c.requires.rows.inside x y at) in
    let up = up_told (vote g c.args.join.now.set.members.now c.args.join.now.b x y) _ (to_z-of_z w32 _ f ∙ own) (vote_sign g c.args.join.now.set.members.now c.args.join.now.b x y c.args.join.now.joined.joins.more_down c.args.join.now.joined.joins.there)
    (λ none. c.if-own-eq0.false (ap (of_z w32) (own ∙ none))) in
    let kept : AreKept g c.args.join.now.set.members.now x y (has []) (difference (row_of c.args.pool.now c.args.entry.0) []) (difference (row_of c.args.pool.now c.args.entry.1) []) =
    subst (λ (o : Option (List ℕ)). AreKept g c.args.join.now.set.members.now x y (has (unwrap_or o [])) (difference (row_of c.args.pool.now c.args.entry.0) (unwrap_or o [])) (difference (row_of c.args.pool.now c.args.entry.1) (unwrap_or o []))) c.in-None.is
    (c.asked.ensures.kept x y at (c.requires.rows.sides x y at) up).1 in
    record {
      inside = c.requires.rows.inside x y at;
      sum_is = sum_stays g c.args.join.now.b c.args.join.now.before.now c.args.join.now.set.members.now x y c.args.join.now.joined.joins
          (λ z m. kept_votes g c.args.join.now.b c.args.join.now.before.now c.args.join.now.set.members.now x y c.args.join.now.joined.joins (row_of c.args.pool.now c.args.entry.0) (row_of c.args.pool.now c.args.entry.1) [] c.args.join.now.joined.row
          (c.requires.rows.sides x y at) kept z m refl)
          ∙ ap (λ (n : ℤ). sum_of g c.args.join.now.before.now x y +ℤ n) (sym own ∙ sym (to_z-of_z w32 _ f));
    }

pub opened_entry-requires-clause-below : goal.opened_entry-requires-clause-below
opened_entry-requires-clause-below c =
    subst (λ (o : Option (List ℕ)). (z : ℕ) → has (unwrap_or o []) z ≡ true → in_past (graph_of c.args.join.now.set.dag.now) z c.args.join.now.b ≡ true) c.in-Some.is c.asked.ensures.below

pub opened_entry-requires-clause-some : goal.opened_entry-requires-clause-some
opened_entry-requires-clause-some c = λ none.
    let f : FitsSigned w32 c.own_vote-own.result = search rules in
    c.if-own-eq0.false (ap (of_z w32) (sym (to_z-of_z w32 _ f) ∙ none))

pub opened_entry-requires-clause-anew : goal.opened_entry-requires-clause-anew
opened_entry-requires-clause-anew c =
    let g : Graph = graph_of c.args.join.now.set.dag.now in
    let ups : List ℕ = row_of c.args.pool.now c.args.entry.0 in
    let downs : List ℕ = row_of c.args.pool.now c.args.entry.1 in
    let asked : (x y : ℕ) → slice_get (pairs_of c.args.join.now.set.dag.now) c.args.place.now.pair ≡ Some (x, y)
    → AreOpen g c.args.join.now.set.members.now x y (has c.in-Some.todo) × AreKept g c.args.join.now.set.members.now x y (has c.in-Some.todo) (difference ups c.in-Some.todo) (difference downs c.in-Some.todo) =
    λ x y at.
    let f : FitsSigned w32 c.own_vote-own.result = search rules in
    let own : c.own_vote-own.result ≡ vote (graph_of c.args.join.now.set.dag.now) c.args.join.now.set.members.now c.args.join.now.b x y =
    c.own_vote-own.ensures x y at (c.requires.rows.inside x y at) in
    subst (λ (o : Option (List ℕ)). AreOpen (graph_of c.args.join.now.set.dag.now) c.args.join.now.set.members.now x y (has (unwrap_or o []))
    × AreKept (graph_of c.args.join.now.set.dag.now) c.args.join.now.set.members.now x y (has (unwrap_or o [])) (difference (row_of c.args.pool.now c.args.entry.0) (unwrap_or o [])) (difference (row_of c.args.pool.now c.args.entry.1) (unwrap_or o [])))
    c.in-Some.is
    (c.asked.ensures.kept x y at (c.requires.rows.sides x y at)
    (up_told (vote (graph_of c.args.join.now.set.dag.now) c.args.join.now.set.members.now c.args.join.now.b x y) _ (to_z-of_z w32 _ f ∙ own) (vote_sign (graph_of c.args.join.now.set.dag.now) c.args.join.now.set.members.now c.args.join.now.b x y c.args.join.now.joined.joins.more_down c.args.join.now.joined.joins.there)
    (λ none. c.if-own-eq0.false (ap (of_z w32) (own ∙ none))))) in
    record {
      within = subst (λ (o : Option (List ℕ)). (z : ℕ) → has (unwrap_or o []) z ≡ true → has c.args.join.now.set.members.now z ≡ true) c.in-Some.is c.asked.ensures.within;
      opened = λ x y at. (asked x y at).0;
      kept = λ x y at. (asked x y at).1;
    }

pub own_vote-own-requires-clause-pair : goal.own_vote-own-requires-clause-pair
own_vote-own-requires-clause-pair c =
    pair_is c.args.join.now.set.dag.now c.args.join.now.b c.args.place.now.pair c.args.place.now.second c.args.place.now.end c.args.place.now.above c.args.place.now.free c.requires.place c.pair-x.result c.pair-x.ensures.pair

pub asked-requires-clause-pair : goal.asked-requires-clause-pair
asked-requires-clause-pair c =
    pair_is c.args.join.now.set.dag.now c.args.join.now.b c.args.place.now.pair c.args.place.now.second c.args.place.now.end c.args.place.now.above c.args.place.now.free c.requires.place c.pair-x.result c.pair-x.ensures.pair
