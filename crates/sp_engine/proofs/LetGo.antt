-- Views are let go one after another, from a place on.
use Rattle.std.proofs.Common.{◌≡◌, ℕ, zero, suc, ◌+◌, ◌<◌, ◌≤◌, List, [], ◌∷◌, ◌++◌, length, map, get_or, take, drop, Some, refl, sym, ap, subst, ◌∙◌, inl, inr, arith, length-append}
use Rattle.std.specs.Prelude.{slice_get}
use Rattle.std.proofs.lemmas.List.{take_all}
use Rattle.sp_bits.specs.Places.{IsGreatest}
use Rattle.sp_dag.specs.Numbered.{AreInOrder, Numbered}
use Rattle.sp_rows.specs.Pool.{Pool}
use Rattle.sp_view.specs.Views.{Viewed}
use Rattle.sp_engine.specs.Votes.{AreLeft, bar_row, entries_of, tips_from, WereBeside}
use Rattle.sp_engine.proofs.Bars.{one_top, top_of_bar}
use Rattle.sp_engine.proofs.StillTips.{tips_next}

-- the one behind a front, and the list without it
next_at : (front : List Viewed) (v d : Viewed) (xs : List Viewed) → get_or (front ++ v ∷ xs) (length front) d ≡ v
next_at [] v d xs = refl
next_at (f ∷ fs) v d xs = next_at fs v d xs

without_next : (front : List Viewed) (v : Viewed) (xs : List Viewed) → take (length front) (front ++ v ∷ xs) ++ drop (suc (length front)) (front ++ v ∷ xs) ≡ front ++ xs
without_next [] v xs = refl
without_next (f ∷ fs) v xs = ap (λ (l : List Viewed). f ∷ l) (without_next fs v xs)

-- whatever would stand there behind the last one
pub is_same : (xs : List Viewed) (i : ℕ) (d e : Viewed) → i < length xs → get_or xs i d ≡ get_or xs i e
is_same [] i d e lt = absurd (omega (arith, lt))
is_same (v ∷ vs) zero d e lt = refl
is_same (v ∷ vs) (suc i) d e lt = is_same vs i d e (omega (arith, lt))

-- its entries are gone
entries_rest : (xs : List Viewed) (i : ℕ) (d : Viewed) → i < length xs → entries_of xs ≡ entries_of (take i xs ++ drop (suc i) xs) + length (get_or xs i d).entries
entries_rest [] i d lt = absurd (omega (arith, lt))
entries_rest (v ∷ vs) zero d lt = omega arith
entries_rest (v ∷ vs) (suc i) d lt = (let rest = entries_rest vs i d (omega (arith, lt)) in omega (arith, rest))

pub entries_without : (xs new : List Viewed) (i : ℕ) (d : Viewed) → new ≡ take i xs ++ drop (i + 1) xs → i < length xs → entries_of xs ≡ entries_of new + length (get_or xs i d).entries
entries_without xs new i d is lt =
    entries_rest xs i d lt
    ∙ ap (λ (l : List Viewed). entries_of l + length (get_or xs i d).entries) (sym (is ∙ ap (λ (k : ℕ). take i xs ++ drop k xs) (let e : i + 1 ≡ suc i = omega arith in e)))

-- those of the first ones, of one more, and of all
pub entries_next : (xs : List Viewed) (i : ℕ) (d : Viewed) → i < length xs → entries_of (take (i + 1) xs) ≡ entries_of (take i xs) + length (get_or xs i d).entries
entries_next xs i d lt = ap (λ (k : ℕ). entries_of (take k xs)) (let e : i + 1 ≡ suc i = omega arith in e) ∙ next xs i lt
  where
    next : (xs : List Viewed) (i : ℕ) → i < length xs → entries_of (take (suc i) xs) ≡ entries_of (take i xs) + length (get_or xs i d).entries
    next [] i lt = absurd (omega (arith, lt))
    next (v ∷ vs) zero lt = omega arith
    next (v ∷ vs) (suc i) lt = (let rest = next vs i (omega (arith, lt)) in omega (arith, rest))

pub entries_front : (xs : List Viewed) (i : ℕ) → entries_of (take i xs) ≤ entries_of xs
entries_front xs zero = omega arith
entries_front [] (suc i) = omega arith
entries_front (v ∷ vs) (suc i) = (let rest = entries_front vs i in omega (arith, rest))

pub entries_all : (xs : List Viewed) (i : ℕ) → length xs ≤ i → entries_of (take i xs) ≡ entries_of xs
entries_all xs i le = ap entries_of (take_all i xs le)

module _ (table : Numbered) (order : AreInOrder table.parents) (small : length table.parents ≤ 512) (front tips : List Viewed) (all : Viewed) (from since : ℕ) where
  -- at first all are left
  pub left_first : (rows : Pool) (views : List Viewed) → views ≡ front ++ (tips ++ all ∷ []) → map (λ (view : Viewed). view.members) tips ≡ map (bar_row table) (tips_from table.parents from)
      → AreLeft table front tips all from since rows views since
  left_first rows views is each = record {
    left = tips;
    is = is;
    from' = from;
    each = each;
    later = inl (refl, refl);
    there = λ i view at. (i, at);
    stay = λ i t view at own lt later. (i, at);
    many = λ less. absurd (omega (arith, less));
  }

  module _ (rows rows' : Pool) (views new : List Viewed) (s s' i : ℕ) (d : Viewed) (at : i ≡ length front) (h : AreLeft table front tips all from since rows views s) (long : i + 2 < length views)
      (is : new ≡ take i views ++ drop (i + 1) views) (next : (top : ℕ) → IsGreatest (get_or views i d).members top → s' ≡ top + 1) (beside : WereBeside rows' new (get_or views i d)) where
    from_least : from ≤ h.from'
    from_least = elim h.later [
      | inl same ↦ omega (arith, same.0)
      | inr later ↦ omega (arith, later.0)
    ]

    two_left : 2 ≤ length h.left
    two_left = omega (arith, long, at, ap length h.is, length-append front (h.left ++ all ∷ []), length-append h.left (all ∷ []))

    -- the first of the tips that are left goes
    step : (v : Viewed) (rest : List Viewed) (t : ℕ) (ts : List ℕ) → h.left ≡ v ∷ rest → tips_from table.parents h.from' ≡ t ∷ ts → v.members ≡ bar_row table t
        → map (λ (view : Viewed). view.members) rest ≡ map (bar_row table) ts → AreLeft table front tips all from since rows' new s'
    step v rest t ts left_is tips_are own others =
        let here : views ≡ front ++ v ∷ (rest ++ all ∷ []) = h.is ∙ ap (λ (l : List Viewed). front ++ (l ++ all ∷ [])) left_is in
        let it : get_or views i d ≡ v = ap (λ (l : List Viewed). get_or l i d) here ∙ ap (λ (k : ℕ). get_or (front ++ v ∷ (rest ++ all ∷ [])) k d) at ∙ next_at front v d (rest ++ all ∷ []) in
        let behind = tips_next table.parents h.from' t ts tips_are in
        let top : IsGreatest v.members t = subst (λ (l : List ℕ). IsGreatest l t) (sym own) (top_of_bar table order small t behind.1) in
        let since_is : s' ≡ t + 1 = next t (subst (λ (w : Viewed). IsGreatest w.members t) (sym it) top) in
        let more : t + 1 < length table.parents = one_more ts rest others (omega (arith, two_left, ap length left_is)) behind.2 in
        record {
          left = rest;
          is =
              is ∙ ap (λ (k : ℕ). take i views ++ drop k views) (let e : i + 1 ≡ suc i = omega arith in e)
              ∙ ap (λ (l : List Viewed). take i l ++ drop (suc i) l) here ∙ ap (λ (k : ℕ). take k (front ++ v ∷ (rest ++ all ∷ [])) ++ drop (suc k) (front ++ v ∷ (rest ++ all ∷ []))) at
              ∙ without_next front v (rest ++ all ∷ []);
          from' = t + 1;
          each = others ∙ ap (map (bar_row table)) behind.2;
          later = inr (omega (arith, from_least, behind.0), since_is, more);
          there = λ j view there. h.there (suc j) view (ap (λ (l : List Viewed). slice_get l (suc j)) left_is ∙ there);
          stay = λ j k view there mine lt later.
              let found = h.stay j k view there mine lt (omega (arith, later, behind.0)) in
              not_first v rest t k view found.0 (ap (λ (l : List Viewed). slice_get l found.0) (sym left_is) ∙ found.1) own mine lt later;
          many = λ less.
              let found = h.there 0 v (ap (λ (l : List Viewed). slice_get l 0) left_is) in
              (t, found.0, v, refl, found.1, own, subst (λ (w : Viewed). WereBeside rows' new w) it beside);
        }
      where
        one_more : (ts : List ℕ) (rest : List Viewed) → map (λ (view : Viewed). view.members) rest ≡ map (bar_row table) ts → 1 ≤ length rest → ts ≡ tips_from table.parents (t + 1) → t + 1 < length table.parents
        one_more [] [] others some tips = absurd (omega (arith, some))
        one_more [] (v ∷ vs) others some tips = cc
        one_more (u ∷ us) rest others some tips = (let last = tips_next table.parents (t + 1) u us (sym tips) in omega (arith, last.0, last.1))

        not_first : (v : Viewed) (rest : List Viewed) (t k : ℕ) (view : Viewed) (j : ℕ) → slice_get (v ∷ rest) j ≡ Some view → v.members ≡ bar_row table t → view.members ≡ bar_row table k → k < length table.parents → t + 1 ≤ k
            → (j : ℕ) × (slice_get rest j ≡ Some view)
        not_first v rest t k view zero there own mine lt later =
            let same : v ≡ view = cc in
            let e : t ≡ k = one_top table order small (bar_row table k) k t lt refl (subst (λ (l : List ℕ). IsGreatest l t) (sym own ∙ ap (λ (w : Viewed). w.members) same ∙ mine) (top_of_bar table order small t (omega (arith, lt, later)))) in
            absurd (omega (arith, e, later))
        not_first v rest t k view (suc j) there own mine lt later = (j, there)

    pub left_next : AreLeft table front tips all from since rows' new s'
    left_next = by h.left (tips_from table.parents h.from') refl refl h.each
      where
        by : (left : List Viewed) (ts : List ℕ) → h.left ≡ left → tips_from table.parents h.from' ≡ ts → map (λ (view : Viewed). view.members) left ≡ map (bar_row table) ts → AreLeft table front tips all from since rows' new s'
        by [] ts left_is tips_are each = absurd (omega (arith, two_left, ap length left_is))
        by (v ∷ rest) [] left_is tips_are each = cc
        by (v ∷ rest) (t ∷ ts) left_is tips_are each =
            let own : v.members ≡ bar_row table t = cc in
            let others : map (λ (view : Viewed). view.members) rest ≡ map (bar_row table) ts = cc in
            step v rest t ts left_is tips_are own others
