-- The entries of a view that is derived, one entry after another, and past runs of pairs that aren't inside the set.
use Rattle.std.proofs.Common.{◌≡◌, ◌∙◌, ℕ, zero, suc, ◌+◌, ◌-◌, ◌^◌, ◌<◌, ◌≤◌, ◌&&◌, Bool, true, false, List, [], ◌∷◌, ◌++◌, length, min, take, Option, Some, None, refl, sym, ap, subst, inl, inr, arith, get_or, length-append}
use Rattle.std.specs.Prelude.{slice_get, ◌↔◌}
use Rattle.std.proofs.lemmas.Bool.{and_from, and_parts, cases_lt, false≢true}
use Rattle.sp_bits.specs.Places.{IsRow}
use Rattle.sp_dag.specs.Numbered.{Numbered, graph_of, pairs_below, pairs_of}
use Rattle.sp_dag.proofs.Ranked.{pair_kind}
use Rattle.sp_dag.proofs.Starts.{fewer_below}
use Rattle.sp_model.specs.Graph.{Graph, has}
use Rattle.sp_rows.specs.Pool.{Counted, Pool, words_of}
use Rattle.sp_rows.specs.Pool as counted
use Rattle.sp_view.specs.Changed.{is_inside}
use Rattle.sp_view.specs.Ends.{NoneFrom}
use Rattle.sp_view.specs.Moving.{moved_rows, moves_of}
use Rattle.sp_view.specs.SoFar.{AreBelow, AreSoFar, IsBase}
use Rattle.sp_view.specs.Stored.{count_of, row_of, live}
use Rattle.sp_view.specs.Views.{entry_at, holds, held, moved_of, IsEntry, IsOnce, KeepIds}
use Rattle.sp_view.proofs.Held.{entry_moves, entry_next, held_push, held_take_le, held_take_next, holds_held, once_more, some_pair}
use Rattle.sp_view.proofs.Moves.{moved_few, moved_moves, moved_take}
use Rattle.sp_view.proofs.Pools.{row_of_words}
use Rattle.sp_view.proofs.Votes.{none_past}

-- more of the first ones hold no less
held_take_more : (entries : List (Option (ℕ × ℕ))) (i j row : ℕ) → i ≤ j → held (take i entries) row ≤ held (take j entries) row
held_take_more entries zero j row le = omega arith
held_take_more [] (suc i) zero row le = omega arith
held_take_more [] (suc i) (suc j) row le = omega arith
held_take_more (e ∷ es) (suc i) zero row le = absurd (omega arith)
held_take_more (e ∷ es) (suc i) (suc j) row le = (let rest = held_take_more es i j row (omega arith) in omega (arith, rest))

moved_take_more : (g : Graph) (set more : List ℕ) (pairs : List (ℕ × ℕ)) (i j : ℕ) → i ≤ j → moved_rows g set more (take i pairs) ≤ moved_rows g set more (take j pairs)
moved_take_more g set more pairs zero j le = omega arith
moved_take_more g set more [] (suc i) zero le = omega arith
moved_take_more g set more [] (suc i) (suc j) le = omega arith
moved_take_more g set more (p ∷ ps) (suc i) zero le = absurd (omega arith)
moved_take_more g set more (p ∷ ps) (suc i) (suc j) le = (let rest = moved_take_more g set more ps i j (omega arith) in omega (arith, rest))

once_past : (count before before' after : ℕ) → IsOnce count before after → before ≤ before' → IsOnce count before' after
once_past count before before' after once le = (λ some. (let few = once.0 some in omega (arith, few, le)), once.1)

module _ (table : Numbered) (from target : List ℕ) (base : List (Option (ℕ × ℕ))) (before : Pool) where
  -- there are none at first
  pub so_far_none : (entries : List (Option (ℕ × ℕ))) → entries ≡ [] → IsBase table from before base → AreSoFar table from target base before before entries
  so_far_none entries none based =
      subst (AreSoFar table from target base before before) (sym none) (record {
        based = based;
        entry = λ j x y le at. absurd (omega (arith, le));
        kept = λ j x y le at. absurd (omega (arith, le));
        counts = λ r. omega arith;
        others = λ r some. refl;
        once = λ r. (λ _. omega arith, λ _. omega arith);
        few = omega arith;
        moved = omega arith;
      })

  -- what is held stays as it is where the rows of the pool do
  pub so_far_same : (pool pool' : Pool) (entries : List (Option (ℕ × ℕ))) → pool'.rows ≡ pool.rows
      → AreSoFar table from target base before pool entries → AreSoFar table from target base before pool' entries
  so_far_same pool pool' entries same h =
      let rows : (r : ℕ) → row_of pool' r ≡ row_of pool r = λ r. row_of_words pool pool' r (ap (λ (l : List Counted). words_of l r) same) in
      let long : live pool' ≡ live pool = ap length same in
      record {
        based = h.based;
        entry = λ j x y le at. entry_moves (graph_of table) target x y pool pool' (entry_at entries j) (λ r _. rows r) (h.entry j x y le at);
        kept = h.kept;
        counts = λ r. ap (λ (l : List Counted). counted.count_of l r) same ∙ h.counts r;
        others = λ r some. rows r ∙ h.others r some;
        once = h.once;
        few = omega (arith, long, h.few);
        moved = omega (arith, long, h.moved);
      }

  -- the entries that are derived from, in the pool as it is
  pub base_now : (pool : Pool) (entries : List (Option (ℕ × ℕ))) (i x y : ℕ) → AreSoFar table from target base before pool entries → slice_get (pairs_of table) i ≡ Some (x, y)
      → IsEntry (graph_of table) from x y pool (entry_at base i)
  base_now pool entries i x y h at =
      entry_moves (graph_of table) from x y before pool (entry_at base i)
      (λ r some. h.others r (omega (arith, some, holds_held base i r, h.based.counted r))) (h.based.entry i x y at)

  pub live_now : (pool : Pool) (entries : List (Option (ℕ × ℕ))) (i r : ℕ) → AreSoFar table from target base before pool entries → holds (entry_at base i) r ≤ count_of pool r
  live_now pool entries i r h = omega (arith, holds_held base i r, h.based.counted r, h.counts r)

  pub once_now : (pool : Pool) (entries : List (Option (ℕ × ℕ))) (i r : ℕ) → AreSoFar table from target base before pool entries → holds (entry_at base i) r ≤ 1
  once_now pool entries i r h = omega (arith, holds_held base i r, h.based.once r)

  pub few_now : (pool : Pool) (entries : List (Option (ℕ × ℕ))) (i r : ℕ) → AreSoFar table from target base before pool entries → length entries ≡ i
      → 0 < holds (entry_at base i) r → count_of pool r < 2 ^ 32 - 1
  few_now pool entries i r h long some =
      let all : holds (entry_at base i) r ≤ held base r = holds_held base i r in
      let so_far : held entries r ≤ held (take (length entries) base) r = (h.once r).0 (omega (arith, h.based.counted r, all, some)) in
      let there : held (take (length entries) base) r ≡ held (take i base) r = ap (λ (k : ℕ). held (take k base) r) long in
      let few = h.based.few r (omega (arith, all, some)) in
      omega (arith, so_far, there, some, held_take_next base i r, held_take_le base (i + 1) r, h.based.once r, few, h.counts r)

  -- the next entry
  pub so_far_next : (pool pool' : Pool) (entries items : List (Option (ℕ × ℕ))) (old entry : Option (ℕ × ℕ)) (i : ℕ) → IsRow from → IsRow target
      → AreSoFar table from target base before pool entries → length entries ≡ i → i < length (pairs_of table) → old ≡ entry_at base i → items ≡ entries ++ entry ∷ []
      → ((x y : ℕ) → slice_get (pairs_of table) i ≡ Some (x, y) → IsEntry (graph_of table) target x y pool' entry)
      → ((x y : ℕ) → slice_get (pairs_of table) i ≡ Some (x, y) → KeepIds (graph_of table) from target x y old entry)
      → ((r : ℕ) → count_of pool' r ≡ count_of pool r + holds entry r)
      → ((r : ℕ) → 0 < count_of pool r → row_of pool' r ≡ row_of pool r)
      → ((r : ℕ) → IsOnce (count_of pool r) (holds old r) (holds entry r))
      → live pool' ≤ live pool + moved_of old entry
      → AreSoFar table from target base before pool' items
  so_far_next pool pool' entries items old entry i row row' h long listed is_old is new keep counts rows once moved =
      let g : Graph = graph_of table in
      let pair = get_or (pairs_of table) i (0, 0) in
      let at_i : slice_get (pairs_of table) i ≡ Some (pair.0, pair.1) = some_pair (pairs_of table) i listed in
      let more : length items ≡ i + 1 = ap length is ∙ length-append entries (entry ∷ []) ∙ ap (λ (k : ℕ). k + 1) long in
      let base_i : (x y : ℕ) → slice_get (pairs_of table) i ≡ Some (x, y) → IsEntry g from x y pool old = λ x y at.
      subst (λ (e : Option (ℕ × ℕ)). IsEntry g from x y pool e) (sym is_old) (base_now pool entries i x y h at) in
      let held_is : (r : ℕ) → held items r ≡ held entries r + holds entry r = λ r. ap (λ (l : List (Option (ℕ × ℕ))). held l r) is ∙ held_push entries entry r in
      let step = moved_moves g from target pair.0 pair.1 pool pool' old entry row row' (base_i pair.0 pair.1 at_i) (new pair.0 pair.1 at_i) (keep pair.0 pair.1 at_i) in
      let before_i : moved_rows g from target (take (length entries) (pairs_of table)) ≡ moved_rows g from target (take i (pairs_of table)) =
      ap (λ (k : ℕ). moved_rows g from target (take k (pairs_of table))) long in
      let behind_i : moved_rows g from target (take (length items) (pairs_of table)) ≡ moved_rows g from target (take i (pairs_of table)) + moves_of g from target pair.0 pair.1 =
      ap (λ (k : ℕ). moved_rows g from target (take k (pairs_of table))) more ∙ moved_take g from target (pairs_of table) i pair.0 pair.1 at_i in
      record {
        based = h.based;
        entry = λ j x y le.
            entry_next (λ k e. slice_get (pairs_of table) k ≡ Some (x, y) → IsEntry g target x y pool' e) entries items entry i long is
            (λ k less at. entry_moves g target x y pool pool' (entry_at entries k)
            (λ r some. rows r (omega (arith, some, holds_held entries k r, h.counts r))) (h.entry k x y (omega (arith, less, long)) at))
            (new x y) j (omega (arith, le, more));
        kept = λ j x y le.
            entry_next (λ k e. slice_get (pairs_of table) k ≡ Some (x, y) → KeepIds g from target x y (entry_at base k) e) entries items entry i long is
            (λ k less at. h.kept k x y (omega (arith, less, long)) at)
            (λ at. subst (λ (e : Option (ℕ × ℕ)). KeepIds g from target x y e entry) is_old (keep x y at)) j (omega (arith, le, more));
        counts = λ r. omega (arith, held_is r, counts r, h.counts r);
        others = λ r some. rows r (omega (arith, some, h.counts r)) ∙ h.others r some;
        once = λ r.
            let next : IsOnce (count_of before r + held entries r) (holds (entry_at base i) r) (holds entry r) =
            subst (λ (n : ℕ). IsOnce n (holds (entry_at base i) r) (holds entry r)) (h.counts r)
            (subst (λ (e : Option (ℕ × ℕ)). IsOnce (count_of pool r) (holds e r) (holds entry r)) is_old (once r)) in
            let so_far : IsOnce (count_of before r) (held (take i base) r) (held entries r) =
            subst (λ (k : ℕ). IsOnce (count_of before r) (held (take k base) r) (held entries r)) long (h.once r) in
            rw (more, held_take_next base i r, held_is r)
            (once_more (count_of before r) (held (take i base) r) (holds (entry_at base i) r) (held entries r) (holds entry r) so_far next
            (omega (arith, holds_held base i r, h.based.counted r)));
        few = omega (arith, moved, moved_few old entry, h.few, more, long);
        moved = omega (arith, moved, step, h.moved, before_i, behind_i);
      }

  -- past pairs that aren't inside the set
  pub so_far_past : (pool : Pool) (entries entries' : List (Option (ℕ × ℕ))) → ((z : ℕ) → has from z ≡ true → has target z ≡ true)
      → AreSoFar table from target base before pool entries → length entries ≤ length entries'
      → ((i : ℕ) → entry_at entries' i ≡ entry_at entries i) → ((r : ℕ) → held entries' r ≡ held entries r)
      → ((i x y : ℕ) → length entries ≤ i → i < length entries' → slice_get (pairs_of table) i ≡ Some (x, y) → is_inside target (x, y) ≡ false)
      → AreSoFar table from target base before pool entries'
  so_far_past pool entries entries' into h le same held_same none =
      let g : Graph = graph_of table in
      record {
        based = h.based;
        entry = λ j x y less at. elim (cases_lt j (length entries)) [
          | inl here ↦ rw (same j) (h.entry j x y here at)
          | inr past ↦ rw (same j, none_past entries j past) (none j x y past less at)
        ];
        kept = λ j x y less at. elim (cases_lt j (length entries)) [
          | inl here ↦ rw (same j) (h.kept j x y here at)
          | inr past ↦ outside x y (entry_at base j) (entry_at entries' j) (h.based.entry j x y at) (none j x y past less at)
        ];
        counts = λ r. omega (arith, h.counts r, held_same r);
        others = h.others;
        once = λ r. rw (held_same r) (once_past (count_of before r) (held (take (length entries) base) r) (held (take (length entries') base) r) (held entries r) (h.once r)
            (held_take_more base (length entries) (length entries') r le));
        few = omega (arith, h.few, le);
        moved = omega (arith, h.moved, moved_take_more g from target (pairs_of table) (length entries) (length entries') le);
      }
    where
      outside : (x y : ℕ) (e e' : Option (ℕ × ℕ)) → IsEntry (graph_of table) from x y before e → is_inside target (x, y) ≡ false → KeepIds (graph_of table) from target x y e e'
      outside x y None e' is out = tt
      outside x y (Some e) e' is out =
          let both : (has from x ≡ true) × (has from y ≡ true) = and_parts (has from x) (has from y) is.0 in
          absurd (false≢true (sym out ∙ and_from (has target x) (has target y) (into x both.0) (into y both.1)))

-- ---- where the blocks below one are done

module _ (table : Numbered) (set : List ℕ) (end : ℕ) where
  pub below_none : AreBelow table set end 0 0
  below_none = record { ends = omega arith; low = omega arith; none = λ i x z le at less. absurd (omega (arith, less)) }

  -- a block that isn't in the set has no pair inside it
  pub below_outside : (y n : ℕ) → has set y ≡ false → AreBelow table set end y n → AreBelow table set end (y + 1) n
  below_outside y n out h = record {
    ends = h.ends;
    low = (let fewer = fewer_below (graph_of table) y (y + 1) (omega arith) in omega (arith, h.low, fewer));
    none = λ i x z le at less. elim (cases_lt z y) [
      | inl lower ↦ h.none i x z le at lower
      | inr more ↦ (let same : z ≡ y = omega (arith, less, more) in rw same (and_false (has set x) (has set y) out))
    ];
  }
    where
      and_false : (c d : Bool) → d ≡ false → (c && d) ≡ false
      and_false true d e = e
      and_false false d e = refl

  -- and all are done where the last one is
  pub below_all : (n : ℕ) → AreBelow table set end (length table.parents) n → (i x z : ℕ) → n ≤ i → slice_get (pairs_of table) i ≡ Some (x, z) → is_inside set (x, z) ≡ false
  below_all n h i x z le at = h.none i x z le at (pair_kind table i (x, z) at).within

  -- the pairs between those of the blocks below one and its own
  pub below_start : (y n start : ℕ) → AreBelow table set end y n → ((i x z : ℕ) → slice_get (pairs_of table) i ≡ Some (x, z) → (start ≤ i) ↔ (y ≤ z))
      → (i x z : ℕ) → n ≤ i → i < min start end → slice_get (pairs_of table) i ≡ Some (x, z) → is_inside set (x, z) ≡ false
  below_start y n start h starts i x z le less at = elim (cases_lt z y) [
    | inl lower ↦ h.none i x z le at lower
    | inr more ↦ (let own : start ≤ i = (starts i x z at).1 more in absurd (omega (arith, own, less)))
  ]

  -- the block's own run
  pub below_stop : (y n stop : ℕ) → NoneFrom table set end → stop ≡ length (pairs_below (graph_of table) y)
      → ((i x z : ℕ) → slice_get (pairs_of table) i ≡ Some (x, z) → (stop ≤ i) ↔ (y ≤ z)) → n ≡ min stop end → AreBelow table set end y n
  below_stop y n stop none is stops least = record {
    ends = omega (arith, least);
    low = omega (arith, least, is);
    none = λ i x z le at less. elim (cases_lt i end) [
      | inl inside ↦ (let own : y ≤ z = (stops i x z at).0 (omega (arith, le, inside, least)) in absurd (omega (arith, own, less)))
      | inr past ↦ none i x z past at
    ];
  }
