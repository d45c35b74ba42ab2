use Rattle.std.proofs.Common.{◌≡◌, ◌∙◌, ◌<◌, ◌≤◌, ◌+◌, ◌*◌, ◌||◌, ℕ, List, Option, ap, arith, eqb, length, subst, sym}
use Rattle.sp_bits.specs.Places.{places_where}
use Rattle.sp_dag.specs.Numbered.{Numbered, graph_of, pairs_of}
use Rattle.sp_model.specs.Graph.{has}
use Rattle.sp_rows.specs.Pool.{Counted, words_of}
use Rattle.sp_rows.specs.Pool as counted
use Rattle.sp_view.specs.Moving.{moved_rows}
use Rattle.sp_view.specs.Views.{Viewed, entry_at, held, AreEntries}
use Rattle.sp_view.specs.Voting.{IsJoined, IsVoting}
use Rattle.sp_view.specs.Stored.{live}
use Rattle.sp_view.proofs.Brought.{moved_brought}
use Rattle.sp_view.proofs.Growing.{entries_grown, view_joined}
use Rattle.sp_view.proofs.Keeping.{patched_same, saving_still}
use Rattle.sp_view.proofs.Moves.{all_moved_few}
use Rattle.sp_view.proofs.Pools.{row_of_words}
use Rattle.sp_view.proofs.view.View.add_with_sums.Goals as goal

pub returns-in_err-reserve-2-clause-others : goal.returns-in_err-reserve-2-clause-others
returns-in_err-reserve-2-clause-others c = λ r _. row_of_words c.args.pool.now c.reserve-2.new.self r (ap (λ (l : List Counted). words_of l r) c.in_err-reserve-2.ensures.rows)

pub invariant_of-set : goal.invariant_of-set
invariant_of-set c =
    let more : c.set.new.self ≡ places_where (λ p. has c.args.self.now.members p || eqb p c.args.b) = c.set.ensures ∙ ap (λ (v : Viewed). places_where (λ p. has v.members p || eqb p c.args.b)) c.self.view_is in
    record {
      voting = (view_joined c.args.dag.now c.args.frozen.now c.args.self.now c.args.pool.now c.args.b c.set.new.self c.len-blocks.ensures.numbered.small
          c.requires.view c.requires.frozen c.requires.added c.requires.b_added c.requires.new c.requires.past more).voting;
    }

pub invariant_of-join : goal.invariant_of-join
invariant_of-join c =
    let more : c.set.new.self ≡ places_where (λ p. has c.args.self.now.members p || eqb p c.args.b) = c.set.ensures ∙ ap (λ (v : Viewed). places_where (λ p. has v.members p || eqb p c.args.b)) c.self.view_is in
    record {
      joined = subst (λ (s : List ℕ). IsJoined c.args.dag.now c.args.frozen.now c.args.b s c.set.new.self) (sym (ap (λ (v : Viewed). v.members) c.self.view_is))
          (view_joined c.args.dag.now c.args.frozen.now c.args.self.now c.args.pool.now c.args.b c.set.new.self c.len-blocks.ensures.numbered.small
          c.requires.view c.requires.frozen c.requires.added c.requires.b_added c.requires.new c.requires.past more);
    }

pub join_entries-requires-clause-entry : goal.join_entries-requires-clause-entry
join_entries-requires-clause-entry c =
    let same : (i : ℕ) → entry_at c.grow.new.entries.items i ≡ entry_at c.args.self.now.entries i =
    λ i. c.grow.ensures.entry i ∙ ap (λ (l : List (Option (ℕ × ℕ))). entry_at l i) c.in_ok-reserve.ensures.items ∙ ap (λ (v : Viewed). entry_at v.entries i) c.self.view_is in
    subst (λ (s : List ℕ). AreEntries c.args.dag.now s c.reserve-2.new.self c.grow.new.entries.items) (sym (ap (λ (v : Viewed). v.members) c.self.view_is))
    (entries_grown c.args.dag.now c.args.self.now c.args.pool.now c.reserve-2.new.self c.grow.new.entries.items c.requires.view same
    (λ r. row_of_words c.args.pool.now c.reserve-2.new.self r (ap (λ (l : List Counted). words_of l r) c.in_ok-reserve-2.ensures.rows)))

pub join_entries-requires-clause-none : goal.join_entries-requires-clause-none
join_entries-requires-clause-none c = λ i x y le at. c.end_of-end.ensures.none i x y (omega (arith, le, c.grow.ensures.long)) at

pub join_entries-requires-clause-room : goal.join_entries-requires-clause-room
join_entries-requires-clause-room c =
    let table : Numbered = c.args.dag.now in
    let more : c.set.new.self ≡ places_where (λ p. has c.args.self.now.members p || eqb p c.args.b) = c.set.ensures ∙ ap (λ (v : Viewed). places_where (λ p. has v.members p || eqb p c.args.b)) c.self.view_is in
    let joined : IsJoined table c.args.frozen.now c.args.b c.args.self.now.members c.set.new.self =
    view_joined table c.args.frozen.now c.args.self.now c.args.pool.now c.args.b c.set.new.self c.len-blocks.ensures.numbered.small
    c.requires.view c.requires.frozen c.requires.added c.requires.b_added c.requires.new c.requires.past more in
    let few : moved_rows (graph_of table) c.args.self.now.members c.set.new.self (pairs_of table) ≤ 2 * length (pairs_of table) =
    all_moved_few (graph_of table) c.args.self.now.members c.set.new.self (pairs_of table) joined.row joined.voting.asked.row in
    subst (λ (s : List ℕ). moved_rows (graph_of table) s c.set.new.self (pairs_of table) ≤ c.reserve-2.new.self.spare) (sym (ap (λ (v : Viewed). v.members) c.self.view_is))
    (omega (arith, few, c.pair_count-pairs.ensures.value, c.in_ok-reserve-2.ensures.ok))

pub returns-clause-ok : goal.returns-clause-ok
returns-clause-ok c =
    let table : Numbered = c.args.dag.now in
    let more : c.set.new.self ≡ places_where (λ p. has c.args.self.now.members p || eqb p c.args.b) = c.set.ensures ∙ ap (λ (v : Viewed). places_where (λ p. has v.members p || eqb p c.args.b)) c.self.view_is in
    let voting : IsVoting table c.args.frozen.now c.set.new.self =
    (view_joined table c.args.frozen.now c.args.self.now c.args.pool.now c.args.b c.set.new.self c.len-blocks.ensures.numbered.small
    c.requires.view c.requires.frozen c.requires.added c.requires.b_added c.requires.new c.requires.past more).voting in
    let held_is : (r : ℕ) → held c.grow.new.entries.items r ≡ held c.args.self.now.entries r =
    λ r. c.grow.ensures.held r ∙ ap (λ (l : List (Option (ℕ × ℕ))). held l r) c.in_ok-reserve.ensures.items ∙ ap (λ (v : Viewed). held v.entries r) c.self.view_is in
    record {
      order = voting.order;
      asked = voting.asked;
      below = voting.below;
      few = omega (arith, c.join_entries.ensures.long, c.grow.ensures.long, c.join_entries.new.entries.ok.0, c.end_of-end.ensures.within);
      entry = c.join_entries.ensures.entry;
      live = λ r. omega (arith, c.join_entries.ensures.counts r, held_is r, ap (λ (l : List Counted). counted.count_of l r) c.in_ok-reserve-2.ensures.rows, c.requires.saved_live r);
      once = c.join_entries.ensures.once;
    }

pub returns-clause-others : goal.returns-clause-others
returns-clause-others c = λ r less.
    let same : held c.grow.new.entries.items r ≡ held c.args.self.now.entries r =
    c.grow.ensures.held r ∙ ap (λ (l : List (Option (ℕ × ℕ))). held l r) c.in_ok-reserve.ensures.items ∙ ap (λ (v : Viewed). held v.entries r) c.self.view_is in
    c.join_entries.ensures.others r (omega (arith, same, less, ap (λ (l : List Counted). counted.count_of l r) c.in_ok-reserve-2.ensures.rows))
    ∙ row_of_words c.args.pool.now c.reserve-2.new.self r (ap (λ (l : List Counted). words_of l r) c.in_ok-reserve-2.ensures.rows)

pub returns-clause-live : goal.returns-clause-live
returns-clause-live c =
    let table : Numbered = c.args.dag.now in
    let more : c.set.new.self ≡ places_where (λ p. has c.args.self.now.members p || eqb p c.args.b) = c.set.ensures ∙ ap (λ (v : Viewed). places_where (λ p. has v.members p || eqb p c.args.b)) c.self.view_is in
    let joined : IsJoined table c.args.frozen.now c.args.b c.args.self.now.members c.set.new.self =
    view_joined table c.args.frozen.now c.args.self.now c.args.pool.now c.args.b c.set.new.self c.len-blocks.ensures.numbered.small
    c.requires.view c.requires.frozen c.requires.added c.requires.b_added c.requires.new c.requires.past more in
    let within : c.args.b < length table.parents = omega (arith, c.requires.b_added, c.requires.frozen.within) in
    let moved : live c.join_entries.new.pool ≤ live c.reserve-2.new.self + moved_rows (graph_of table) c.args.self.now.members c.set.new.self (pairs_of table) =
    subst (λ (s : List ℕ). live c.join_entries.new.pool ≤ live c.reserve-2.new.self + moved_rows (graph_of table) s c.set.new.self (pairs_of table)) (ap (λ (v : Viewed). v.members) c.self.view_is) c.join_entries.ensures.live in
    omega (
      arith,
      moved,
      ap (λ (l : List Counted). length l) c.in_ok-reserve-2.ensures.rows,
      moved_brought table c.args.b c.args.self.now.members c.set.new.self joined.row within c.len-blocks.ensures.numbered.small joined.joins,
    )

pub join_entries-requires-clause-live : goal.join_entries-requires-clause-live
join_entries-requires-clause-live c = λ r.
    let held_is : (r : ℕ) → held c.grow.new.entries.items r ≡ held c.args.self.now.entries r =
    λ r. c.grow.ensures.held r ∙ ap (λ (l : List (Option (ℕ × ℕ))). held l r) c.in_ok-reserve.ensures.items ∙ ap (λ (v : Viewed). held v.entries r) c.self.view_is in
    omega (arith, held_is r, ap (λ (l : List Counted). counted.count_of l r) c.in_ok-reserve-2.ensures.rows, c.requires.saved_live r)

pub join_entries-requires-clause-saved : goal.join_entries-requires-clause-saved
join_entries-requires-clause-saved c =
    let entry_is : (i : ℕ) → entry_at c.grow.new.entries.items i ≡ entry_at c.args.self.now.entries i =
    λ i. c.grow.ensures.entry i ∙ ap (λ (l : List (Option (ℕ × ℕ))). entry_at l i) c.in_ok-reserve.ensures.items ∙ ap (λ (v : Viewed). entry_at v.entries i) c.self.view_is in
    saving_still c.args.saved.now c.args.saved.now c.args.self.now.entries c.grow.new.entries.items (patched_same c.args.saved.now c.grow.new.entries.items c.args.self.now.entries entry_is)
    (omega (arith, c.grow.ensures.long, c.grow.new.entries.ok.0, c.end_of-end.ensures.from, c.self.inside.entries.ok.0, ap (λ (v : Viewed). length v.entries) c.self.view_is)) c.requires.saved

pub join_entries-requires-clause-few : goal.join_entries-requires-clause-few
join_entries-requires-clause-few c = λ some r. omega (arith, ap (λ (l : List Counted). counted.count_of l r) c.in_ok-reserve-2.ensures.rows, c.requires.saved_few some r)

pub returns-clause-counts : goal.returns-clause-counts
returns-clause-counts c = λ r.
    let held_is : (r : ℕ) → held c.grow.new.entries.items r ≡ held c.args.self.now.entries r =
    λ r. c.grow.ensures.held r ∙ ap (λ (l : List (Option (ℕ × ℕ))). held l r) c.in_ok-reserve.ensures.items ∙ ap (λ (v : Viewed). held v.entries r) c.self.view_is in
    omega (arith, held_is r, ap (λ (l : List Counted). counted.count_of l r) c.in_ok-reserve-2.ensures.rows, c.join_entries.ensures.counts r)

pub returns-clause-patched : goal.returns-clause-patched
returns-clause-patched c =
    let entry_is : (i : ℕ) → entry_at c.grow.new.entries.items i ≡ entry_at c.args.self.now.entries i =
    λ i. c.grow.ensures.entry i ∙ ap (λ (l : List (Option (ℕ × ℕ))). entry_at l i) c.in_ok-reserve.ensures.items ∙ ap (λ (v : Viewed). entry_at v.entries i) c.self.view_is in
    c.join_entries.ensures.patched ∙ patched_same c.args.saved.now c.grow.new.entries.items c.args.self.now.entries entry_is

pub returns-clause-saved : goal.returns-clause-saved
returns-clause-saved c =
    let entry_is : (i : ℕ) → entry_at c.grow.new.entries.items i ≡ entry_at c.args.self.now.entries i =
    λ i. c.grow.ensures.entry i ∙ ap (λ (l : List (Option (ℕ × ℕ))). entry_at l i) c.in_ok-reserve.ensures.items ∙ ap (λ (v : Viewed). entry_at v.entries i) c.self.view_is in
    saving_still c.args.saved.now c.join_entries.new.saved c.args.self.now.entries c.join_entries.new.entries.items
    (c.join_entries.ensures.patched ∙ patched_same c.args.saved.now c.grow.new.entries.items c.args.self.now.entries entry_is)
    (omega (arith, c.join_entries.ensures.long, c.join_entries.new.entries.ok.0, c.grow.ensures.long, c.end_of-end.ensures.from, c.self.inside.entries.ok.0, ap (λ (v : Viewed). length v.entries) c.self.view_is)) c.requires.saved

pub returns-clause-saved_rows : goal.returns-clause-saved_rows
returns-clause-saved_rows c = λ r some.
    let entry_is : (i : ℕ) → entry_at c.grow.new.entries.items i ≡ entry_at c.args.self.now.entries i =
    λ i. c.grow.ensures.entry i ∙ ap (λ (l : List (Option (ℕ × ℕ))). entry_at l i) c.in_ok-reserve.ensures.items ∙ ap (λ (v : Viewed). entry_at v.entries i) c.self.view_is in
    c.join_entries.ensures.saved_rows r
    (omega (arith, some, ap (λ (l : List (Option (ℕ × ℕ))). held l r) (patched_same c.args.saved.now c.grow.new.entries.items c.args.self.now.entries entry_is)))
    ∙ row_of_words c.args.pool.now c.reserve-2.new.self r (ap (λ (l : List Counted). words_of l r) c.in_ok-reserve-2.ensures.rows)

pub returns-in_err-reserve-2-clause-saved_rows : goal.returns-in_err-reserve-2-clause-saved_rows
returns-in_err-reserve-2-clause-saved_rows c = λ r _. row_of_words c.args.pool.now c.reserve-2.new.self r (ap (λ (l : List Counted). words_of l r) c.in_err-reserve-2.ensures.rows)
