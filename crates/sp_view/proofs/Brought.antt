-- How many pairs a block brings into a set: one for each member that is unrelated to it.
use Rattle.std.proofs.Common.{◌≡◌, ◌≢◌, ℕ, zero, suc, ◌+◌, ◌-◌, ◌*◌, ◌<◌, ◌≤◌, ◌⊎◌, Bool, true, false, cond, ◌||◌, ◌&&◌, List, [], ◌∷◌, ◌++◌, length, map, refl, sym, ap, ◌∙◌, eqb, inl, inr, arith, length-append}
use Rattle.std.specs.Prelude.{filter, not}
use Rattle.std.specs.List.{range_with_len, flat_map}
use Rattle.std.proofs.lemmas.Bool.{false≢true, cases_eq, cases_lt, eqb-true, eq-eqb, ne_eqb, and_parts, and_from}
use Rattle.std.proofs.lemmas.List.Concat.{flat_map-append}
use Rattle.std.proofs.lemmas.List.Elements.{filter-append}
use Rattle.sp_bits.specs.Places.{IsRow, places_where}
use Rattle.sp_bits.proofs.RowSets.{filter-filter}
use Rattle.sp_dag.specs.Numbered.{Numbered, graph_of, pairs_of, pairs_below, unrelated_below}
use Rattle.sp_dag.proofs.NewPairs.{range_more}
use Rattle.sp_model.specs.Graph.{Graph, has, in_past, related, anticone}
use Rattle.sp_model.specs.Joining.{Joins}
use Rattle.sp_model.proofs.Sets.{same_truth}
use Rattle.sp_view.specs.Moving.{changes_of, changed_rows, moved_rows}

-- ---- counting

-- where a test passes only where another one does, on the numbers of a list
count_le : (p q : ℕ → Bool) (xs : List ℕ) → ((x : ℕ) → has xs x ≡ true → p x ≡ true → q x ≡ true) → length (filter p xs) ≤ length (filter q xs)
count_le p q [] h = omega arith
count_le p q (x ∷ xs) h = at (p x) (q x) (h x (here x)) (count_le p q xs (λ y there. h y (later y there)))
  where
    here : (x : ℕ) → (eqb x x || has xs x) ≡ true
    here x = rw (eq-eqb x x refl) refl

    later : (y : ℕ) → has xs y ≡ true → (eqb x y || has xs y) ≡ true
    later y there = rw there (any (eqb x y))
      where
        any : (b : Bool) → (b || true) ≡ true
        any true = refl
        any false = refl

    at : (a b : Bool) → (a ≡ true → b ≡ true) → length (filter p xs) ≤ length (filter q xs)
        → length (cond a (x ∷ filter p xs) (filter p xs)) ≤ length (cond b (x ∷ filter q xs) (filter q xs))
    at true true e rest = omega arith
    at true false e rest = absurd (false≢true (e refl))
    at false true e rest = omega arith
    at false false e rest = rest

count_none : (p : ℕ → Bool) (xs : List ℕ) → ((x : ℕ) → has xs x ≡ true → p x ≡ true → ⊥) → length (filter p xs) ≡ 0
count_none p xs h = (let le : length (filter p xs) ≤ length (filter (λ _. false) xs) = count_le p (λ _. false) xs (λ x there passes. absurd (h x there passes)) in omega (arith, le, none xs))
  where
    none : (xs : List ℕ) → length (filter (λ _. false) xs) ≡ 0
    none [] = refl
    none (x ∷ xs) = none xs

-- one number stands once in a range
range_from : (a n x : ℕ) → has (range_with_len a n) x ≡ true → (a ≤ x) × (x < a + n)
range_from a zero x h = absurd (false≢true h)
range_from a (suc n) x h = at (eqb a x) refl h (λ there. range_from (a + 1) n x there)
  where
    at : (b : Bool) → eqb a x ≡ b → (b || has (range_with_len (a + 1) n) x) ≡ true → (has (range_with_len (a + 1) n) x ≡ true → (a + 1 ≤ x) × (x < a + 1 + n)) → (a ≤ x) × (x < a + suc n)
    at true e h later = (let same = eqb-true a x e in (omega (arith, same), omega (arith, same)))
    at false e h later = (let rest = later h in (omega (arith, rest.0), omega (arith, rest.1)))

count_one : (b a n : ℕ) → length (filter (λ x. eqb x b) (range_with_len a n)) ≤ 1
count_one b a zero = omega arith
count_one b a (suc n) = at (eqb a b) refl (count_one b (a + 1) n)
  where
    at : (c : Bool) → eqb a b ≡ c → length (filter (λ x. eqb x b) (range_with_len (a + 1) n)) ≤ 1
        → length (cond c (a ∷ filter (λ x. eqb x b) (range_with_len (a + 1) n)) (filter (λ x. eqb x b) (range_with_len (a + 1) n))) ≤ 1
    at true e rest =
        (let none : length (filter (λ x. eqb x b) (range_with_len (a + 1) n)) ≡ 0 =
        count_none (λ x. eqb x b) (range_with_len (a + 1) n) (λ x there same. (let ab = eqb-true a b e in let xb = eqb-true x b same in let low = range_from (a + 1) n x there in omega (arith, ab, xb, low.0))) in
        omega (arith, none))
    at false e rest = rest

-- more numbers, more that pass
count_more : (p : ℕ → Bool) (a n k : ℕ) → length (filter p (range_with_len a n)) ≤ length (filter p (range_with_len a (n + k)))
count_more p a zero k = omega arith
count_more p a (suc n) k =
    (let next : suc n + k ≡ suc (n + k) = omega arith in rw next (at (p a) (count_more p (a + 1) n k)))
  where
    at : (b : Bool) → length (filter p (range_with_len (a + 1) n)) ≤ length (filter p (range_with_len (a + 1) (n + k)))
        → length (cond b (a ∷ filter p (range_with_len (a + 1) n)) (filter p (range_with_len (a + 1) n))) ≤ length (cond b (a ∷ filter p (range_with_len (a + 1) (n + k))) (filter p (range_with_len (a + 1) (n + k))))
    at true rest = omega arith
    at false rest = rest

count_map : (q : ℕ × ℕ → Bool) (y : ℕ) (xs : List ℕ) → length (filter q (map (λ x. (x, y)) xs)) ≡ length (filter (λ x. q (x, y)) xs)
count_map q y [] = refl
count_map q y (x ∷ xs) = at (q (x, y)) (count_map q y xs)
  where
    at : (b : Bool) → length (filter q (map (λ x. (x, y)) xs)) ≡ length (filter (λ x. q (x, y)) xs)
        → length (cond b ((x, y) ∷ filter q (map (λ x. (x, y)) xs)) (filter q (map (λ x. (x, y)) xs))) ≡ length (cond b (x ∷ filter (λ x. q (x, y)) xs) (filter (λ x. q (x, y)) xs))
    at true rest = omega (arith, rest)
    at false rest = rest

-- ---- pairs that are inside a set and not inside a smaller one

pub is_new : List ℕ → List ℕ → ℕ × ℕ → Bool
is_new set more pair = (has more pair.0 && has more pair.1) && not (has set pair.0 && has set pair.1)

moved_new : (g : Graph) (set more : List ℕ) (pairs : List (ℕ × ℕ)) → moved_rows g set more pairs ≤ 2 * length (filter (is_new set more) pairs) + changed_rows g set more pairs
unfolding is_new
moved_new g set more [] = omega arith
moved_new g set more (p ∷ ps) = at (has set p.0 && has set p.1) (has more p.0 && has more p.1) (changes_of g set more p.0 p.1) (moved_new g set more ps)
  where
    new : List (ℕ × ℕ)
    new = filter (is_new set more) ps

    at : (s m : Bool) (c : ℕ) → moved_rows g set more ps ≤ 2 * length new + changed_rows g set more ps
        → cond s c (cond m 2 0) + moved_rows g set more ps ≤ 2 * length (cond (m && not s) (p ∷ new) new) + (cond s c 0 + changed_rows g set more ps)
    at true true c rest = omega (arith, rest)
    at true false c rest = omega (arith, rest)
    at false true c rest = omega (arith, rest)
    at false false c rest = omega (arith, rest)

module _ (g : Graph) (b : ℕ) (set more : List ℕ) (joins : Joins g b set more) where
  elsewhere : (z : ℕ) → z ≢ b → has more z ≡ has set z
  elsewhere z other = same_truth (has more z) (has set z) (λ h. joins.from z h other) (joins.into z)

  -- the members that are unrelated to the block
  pub apart : ℕ → Bool
  apart w = has set w && (not (eqb w b) && not (related g w b))

  pub new_below : ℕ → ℕ
  new_below n = length (filter (is_new set more) (pairs_below g n))

  -- the pairs of one block more
  pub at_last : ℕ → ℕ
  at_last n = length (filter (λ x. not (related g x n) && is_new set more (x, n)) (range_with_len 0 n))

  next_pairs : (n : ℕ) → new_below (suc n) ≡ new_below n + at_last n
  unfolding new_below at_last
  next_pairs n =
      ap (λ (l : List ℕ). length (filter (is_new set more) (flat_map pairs_at l))) (range_more 0 n n (omega arith))
      ∙ ap (λ (l : List (ℕ × ℕ)). length (filter (is_new set more) l)) (flat_map-append pairs_at (range_with_len 0 n) (n ∷ []))
      ∙ ap length (filter-append (is_new set more) (flat_map pairs_at (range_with_len 0 n)) (flat_map pairs_at (n ∷ [])))
      ∙ length-append (filter (is_new set more) (flat_map pairs_at (range_with_len 0 n))) (filter (is_new set more) (flat_map pairs_at (n ∷ [])))
      ∙ ap (λ (k : ℕ). length (filter (is_new set more) (flat_map pairs_at (range_with_len 0 n))) + k) last
    where
      pairs_at : ℕ → List (ℕ × ℕ)
      pairs_at y = map (λ x. (x, y)) (unrelated_below g y)

      nil : (xs : List (ℕ × ℕ)) → xs ++ [] ≡ xs
      nil [] = refl
      nil (x ∷ xs) = ap (λ (l : List (ℕ × ℕ)). x ∷ l) (nil xs)

      last : length (filter (is_new set more) (flat_map pairs_at (n ∷ []))) ≡ length (filter (λ x. not (related g x n) && is_new set more (x, n)) (range_with_len 0 n))
      last =
          ap (λ (l : List (ℕ × ℕ)). length (filter (is_new set more) l)) (nil (pairs_at n))
          ∙ count_map (is_new set more) n (unrelated_below g n)
          ∙ ap length (filter-filter (λ x. not (related g x n)) (λ x. is_new set more (x, n)) (range_with_len 0 n))

  no_new : (x y : ℕ) → x ≢ b → y ≢ b → is_new set more (x, y) ≡ true → ⊥
  unfolding is_new
  no_new x y ox oy h = never (has more x && has more y) (has set x && has set y) (rw (elsewhere x ox, elsewhere y oy) refl) h
    where
      never : (m s : Bool) → m ≡ s → (m && not s) ≡ true → ⊥
      never true true e h = false≢true h
      never true false e h = false≢true (sym e)
      never false s e h = false≢true h

  new_has : (x y : ℕ) → is_new set more (x, y) ≡ true → (has more x ≡ true) × (has more y ≡ true)
  unfolding is_new
  new_has x y h = and_parts (has more x) (has more y) (and_parts (has more x && has more y) (not (has set x && has set y)) h).0

  turn : (x y : ℕ) → not (related g x y) ≡ true → not (related g y x) ≡ true
  turn x y h = ap not (ap (λ (c : Bool). not c && (in_past g y x || in_past g x y)) (flip y x) ∙ ap (λ (c : Bool). not (eqb x y) && c) (swap (in_past g y x) (in_past g x y))) ∙ h
    where
      flip : (a c : ℕ) → eqb a c ≡ eqb c a
      flip a c = elim (cases_eq a c) [
        | inl same ↦ eq-eqb a c same ∙ sym (eq-eqb c a (sym same))
        | inr other ↦ ne_eqb a c other ∙ sym (ne_eqb c a (λ e. other (sym e)))
      ]

      swap : (p q : Bool) → (p || q) ≡ (q || p)
      swap true true = refl
      swap true false = refl
      swap false true = refl
      swap false false = refl

  -- none before the block's own pairs, and afterwards at most one for each member apart
  pub few_new : (n : ℕ) → (n ≤ b → new_below n ≡ 0) × (new_below n ≤ length (filter apart (range_with_len 0 n)))
  unfolding new_below at_last apart
  few_new zero = (λ _. refl, omega arith)
  few_new (suc n) = by (few_new n) (cases_lt n b) (cases_eq n b)
    where
      more_apart : length (filter apart (range_with_len 0 (suc n))) ≡ length (filter apart (range_with_len 0 n)) + length (filter apart (n ∷ []))
      more_apart = ap (λ (l : List ℕ). length (filter apart l)) (range_more 0 n n (omega arith)) ∙ ap length (filter-append apart (range_with_len 0 n) (n ∷ [])) ∙ length-append (filter apart (range_with_len 0 n)) (filter apart (n ∷ []))

      parts : (x : ℕ) → (not (related g x n) && is_new set more (x, n)) ≡ true → (not (related g x n) ≡ true) × (is_new set more (x, n) ≡ true)
      parts x h = and_parts (not (related g x n)) (is_new set more (x, n)) h

      by : (new_so_far : (n ≤ b → new_below n ≡ 0) × (new_below n ≤ length (filter apart (range_with_len 0 n)))) → (n < b) ⊎ (b ≤ n) → (n ≡ b) ⊎ (n ≡ b → ⊥)
          → (suc n ≤ b → new_below (suc n) ≡ 0) × (new_below (suc n) ≤ length (filter apart (range_with_len 0 (suc n))))
      by so_far (inl before) here =
          (let none : at_last n ≡ 0 = count_none (λ x. not (related g x n) && is_new set more (x, n)) (range_with_len 0 n)
          (λ x there h. (let low = range_from 0 n x there in no_new x n (λ e. omega (arith, low.1, e)) (λ e. omega (arith, e)) (parts x h).1)) in
          (λ _. next_pairs n ∙ (let zero_before = so_far.0 (omega (arith, before)) in omega (arith, zero_before, none)), omega (arith, next_pairs n, none, so_far.1, more_apart)))
      by so_far (inr later) (inl same) =
          (let own : at_last n ≤ length (filter apart (range_with_len 0 n)) = count_le (λ x. not (related g x n) && is_new set more (x, n)) apart (range_with_len 0 n)
          (λ x there h.
          let low = range_from 0 n x there in
          let other : x ≢ b = λ e. omega (arith, low.1, e, same) in
          and_from (has set x) (not (eqb x b) && not (related g x b)) (joins.from x (new_has x n (parts x h).1).0 other)
          (and_from (not (eqb x b)) (not (related g x b)) (ap not (ne_eqb x b other)) (ap (λ (k : ℕ). not (related g x k)) (sym same) ∙ (parts x h).0))) in
          (λ le. absurd (omega (arith, le, same)), (let zero_before = so_far.0 (omega (arith, same)) in omega (arith, next_pairs n, zero_before, own, more_apart))))
      by so_far (inr later) (inr other) =
          (let own : at_last n ≤ length (filter apart (n ∷ [])) = last (apart n) refl in
          (λ le. absurd (omega (arith, le, later)), omega (arith, next_pairs n, own, so_far.1, more_apart)))
        where
          only_b : (x : ℕ) → is_new set more (x, n) ≡ true → x ≡ b
          only_b x h = elim (cases_eq x b) [ inl e ↦ e | inr ne ↦ absurd (no_new x n ne other h) ]

          last : (c : Bool) → apart n ≡ c → at_last n ≤ length (cond c (n ∷ []) [])
          last true e = (let le : at_last n ≤ length (filter (λ x. eqb x b) (range_with_len 0 n)) =
              count_le (λ x. not (related g x n) && is_new set more (x, n)) (λ x. eqb x b) (range_with_len 0 n) (λ x there h. eq-eqb x b (only_b x (parts x h).1)) in omega (arith, le, count_one b 0 n))
          last false e = (let none : at_last n ≡ 0 = count_none (λ x. not (related g x n) && is_new set more (x, n)) (range_with_len 0 n)
              (λ x there h.
              let at : x ≡ b = only_b x (parts x h).1 in
              false≢true (sym e ∙ and_from (has set n) (not (eqb n b) && not (related g n b)) (joins.from n (new_has x n (parts x h).1).1 other)
              (and_from (not (eqb n b)) (not (related g n b)) (ap not (ne_eqb n b other)) (turn b n (ap (λ (k : ℕ). not (related g k n)) (sym at) ∙ (parts x h).0))))) in omega (arith, none))

  pub few_apart : (n : ℕ) → IsRow set → n ≤ 512 → length (filter apart (range_with_len 0 n)) ≤ length (anticone g set b)
  unfolding IsRow places_where apart
  few_apart n row le =
      (let all : n + (512 - n) ≡ 512 = omega (arith, le) in
      let most : length (filter apart (range_with_len 0 n)) ≤ length (filter apart (range_with_len 0 (n + (512 - n)))) = count_more apart 0 n (512 - n) in
      let is : length (anticone g set b) ≡ length (filter apart (range_with_len 0 512)) =
      ap (λ (l : List ℕ). length (filter (λ w. not (eqb w b) && not (related g w b)) l)) row
      ∙ ap length (filter-filter (has set) (λ w. not (eqb w b) && not (related g w b)) (range_with_len 0 512)) in
      omega (arith, most, is, ap (λ (k : ℕ). length (filter apart (range_with_len 0 k))) all))

-- the rows that a joining block moves: two for each member that is unrelated to it, and those of old pairs that change
pub moved_brought : (table : Numbered) (b : ℕ) (set more : List ℕ) → IsRow set → b < length table.parents → length table.parents ≤ 512 → Joins (graph_of table) b set more
    → moved_rows (graph_of table) set more (pairs_of table) ≤ 2 * length (anticone (graph_of table) set b) + changed_rows (graph_of table) set more (pairs_of table)
unfolding new_below
moved_brought table b set more row within small joins =
    let g : Graph = graph_of table in
    omega (arith, moved_new g set more (pairs_of table), (few_new g b set more joins (length table.parents)).1, few_apart g b set more joins (length table.parents) row small)
