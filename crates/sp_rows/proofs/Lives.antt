-- The live rows, where one of them changes.
use Rattle.std.proofs.Common.{◌≡◌, ℕ, zero, suc, ◌+◌, ◌<◌, ◌≤◌, ◌==◌, Bool, true, false, cond, not, List, [], ◌∷◌, ◌++◌, length, set, get_or, replicate, refl, sym, ap, ◌∙◌, arith}
use Rattle.std.specs.List.{sum_by}
use Rattle.std.proofs.lemmas.Bool.{le-ltb, lt-ltb, eq-eqb, ne_eqb, eqb-true, eqb-false}
use Rattle.std.proofs.lemmas.List.Sums.{sum_by-set, sum_by-cons}
use Rattle.sp_rows.specs.Pool.{Counted, count_of, words_of, with_row, without_row, AreRows}
use Rattle.sp_rows.specs.Kept.{live_rows, one_if, live_of}

abbrev row : ℕ → ℕ → List ℕ → Counted
row id count words = record { id = id; count = count; words = words }

pub live_rows-same : (w w' : ℕ → List ℕ) (from : ℕ) (counts : List ℕ) → ((k : ℕ) → from ≤ k → k < from + length counts → w' k ≡ w k)
    → live_rows w' from counts ≡ live_rows w from counts
live_rows-same w w' from [] same = refl
live_rows-same w w' from (count ∷ counts) same =
    let here : w' from ≡ w from = same from (omega arith) (omega arith) in
    let rest : live_rows w' (from + 1) counts ≡ live_rows w (from + 1) counts = live_rows-same w w' (from + 1) counts (λ k le lt. same k (omega arith) (omega arith)) in
    ap (λ (l : List Counted). cond (count == 0) l (row from count (w' from) ∷ l)) rest
    ∙ ap (λ (ws : List ℕ). cond (count == 0) (live_rows w (from + 1) counts) (row from count ws ∷ live_rows w (from + 1) counts)) here

-- a row before all others
with_row-first : (w : ℕ → List ℕ) (from : ℕ) (counts : List ℕ) (new : Counted) → new.id < from → with_row (live_rows w from counts) new ≡ new ∷ live_rows w from counts
with_row-first w from [] new le = refl
with_row-first w from (count ∷ counts) new le = by (count == 0) (with_row-first w (from + 1) counts new (omega arith))
  where
    rest : List Counted
    rest = live_rows w (from + 1) counts

    by : (c : Bool) → with_row rest new ≡ new ∷ rest → with_row (cond c rest (row from count (w from) ∷ rest)) new ≡ new ∷ cond c rest (row from count (w from) ∷ rest)
    by true h = h
    by false h = ap (λ (c : Bool). cond c (new ∷ row from count (w from) ∷ rest) (cond (from == new.id) (new ∷ rest) (row from count (w from) ∷ with_row rest new))) (lt-ltb new.id from le)

without_row-first : (w : ℕ → List ℕ) (from : ℕ) (counts : List ℕ) (id : ℕ) → id < from → without_row (live_rows w from counts) id ≡ live_rows w from counts
without_row-first w from [] id le = refl
without_row-first w from (count ∷ counts) id le = by (count == 0) (without_row-first w (from + 1) counts id (omega arith))
  where
    rest : List Counted
    rest = live_rows w (from + 1) counts

    by : (c : Bool) → without_row rest id ≡ rest → without_row (cond c rest (row from count (w from) ∷ rest)) id ≡ cond c rest (row from count (w from) ∷ rest)
    by true h = h
    by false h =
        ap (λ (c : Bool). cond (not c) (row from count (w from) ∷ without_row rest id) (without_row rest id)) (ne_eqb from id (λ e. omega arith))
        ∙ ap (λ (l : List Counted). row from count (w from) ∷ l) h

module _ (w w' : ℕ → List ℕ) (id : ℕ) (others : (k : ℕ) → (k ≡ id → ⊥) → w' k ≡ w k) where
  -- a row with another count, and with other words
  pub live_rows-set : (from : ℕ) (counts : List ℕ) (i count' : ℕ) → id ≡ from + i → i < length counts → 0 < count'
      → live_rows w' from (set counts i count') ≡ with_row (live_rows w from counts) (row id count' (w' id))
  live_rows-set from [] i count' at le some = absurd (omega arith)
  live_rows-set from (count ∷ counts) zero count' at le some =
      (let here : from ≡ id = omega arith in
      ap (λ (c : Bool). cond c (live_rows w' (from + 1) counts) (row from count' (w' from) ∷ live_rows w' (from + 1) counts)) (ne_eqb count' 0 (λ e. omega arith))
      ∙ ap (λ (l : List Counted). row from count' (w' from) ∷ l) (live_rows-same w w' (from + 1) counts (λ k low high. others k (λ e. omega arith)))
      ∙ ap (λ (k : ℕ). row k count' (w' k) ∷ rest) here ∙ sym (by (count == 0) here))
    where
      rest : List Counted
      rest = live_rows w (from + 1) counts

      new : Counted
      new = row id count' (w' id)

      by : (c : Bool) → from ≡ id → with_row (cond c rest (row from count (w from) ∷ rest)) new ≡ new ∷ rest
      by true here = with_row-first w (from + 1) counts new (omega arith)
      by false here =
          ap (λ (c : Bool). cond c (new ∷ row from count (w from) ∷ rest) (cond (from == id) (new ∷ rest) (row from count (w from) ∷ with_row rest new))) (le-ltb id from (omega arith))
          ∙ ap (λ (c : Bool). cond c (new ∷ rest) (row from count (w from) ∷ with_row rest new)) (eq-eqb from id here)
  live_rows-set from (count ∷ counts) (suc i) count' at le some =
      (let here : w' from ≡ w from = others from (λ e. omega arith) in
      ap (λ (l : List Counted). cond (count == 0) l (row from count (w' from) ∷ l)) (live_rows-set (from + 1) counts i count' (omega arith) (omega arith) some)
      ∙ ap (λ (ws : List ℕ). cond (count == 0) (with_row rest new) (row from count ws ∷ with_row rest new)) here ∙ by (count == 0))
    where
      rest : List Counted
      rest = live_rows w (from + 1) counts

      new : Counted
      new = row id count' (w' id)

      by : (c : Bool) → cond c (with_row rest new) (row from count (w from) ∷ with_row rest new) ≡ with_row (cond c rest (row from count (w from) ∷ rest)) new
      by true = refl
      by false = sym (
          ap (λ (c : Bool). cond c (new ∷ row from count (w from) ∷ rest) (cond (from == id) (new ∷ rest) (row from count (w from) ∷ with_row rest new))) (le-ltb id from (omega arith))
          ∙ ap (λ (c : Bool). cond c (new ∷ rest) (row from count (w from) ∷ with_row rest new)) (ne_eqb from id (λ e. omega arith)))

  -- a row that is live no more
  pub live_rows-clear : (from : ℕ) (counts : List ℕ) (i : ℕ) → id ≡ from + i → i < length counts
      → live_rows w' from (set counts i 0) ≡ without_row (live_rows w from counts) id
  live_rows-clear from [] i at le = absurd (omega arith)
  live_rows-clear from (count ∷ counts) zero at le =
      (let here : from ≡ id = omega arith in
      live_rows-same w w' (from + 1) counts (λ k low high. others k (λ e. omega arith)) ∙ sym (by (count == 0) here))
    where
      rest : List Counted
      rest = live_rows w (from + 1) counts

      by : (c : Bool) → from ≡ id → without_row (cond c rest (row from count (w from) ∷ rest)) id ≡ rest
      by true here = without_row-first w (from + 1) counts id (omega arith)
      by false here =
          ap (λ (c : Bool). cond (not c) (row from count (w from) ∷ without_row rest id) (without_row rest id)) (eq-eqb from id here)
          ∙ without_row-first w (from + 1) counts id (omega arith)
  live_rows-clear from (count ∷ counts) (suc i) at le =
      (let here : w' from ≡ w from = others from (λ e. omega arith) in
      ap (λ (l : List Counted). cond (count == 0) l (row from count (w' from) ∷ l)) (live_rows-clear (from + 1) counts i (omega arith) (omega arith))
      ∙ ap (λ (ws : List ℕ). cond (count == 0) (without_row rest id) (row from count ws ∷ without_row rest id)) here ∙ by (count == 0))
    where
      rest : List Counted
      rest = live_rows w (from + 1) counts

      by : (c : Bool) → cond c (without_row rest id) (row from count (w from) ∷ without_row rest id) ≡ without_row (cond c rest (row from count (w from) ∷ rest)) id
      by true = refl
      by false = sym (ap (λ (c : Bool). cond (not c) (row from count (w from) ∷ without_row rest id) (without_row rest id)) (ne_eqb from id (λ e. omega arith)))

-- more rows that aren't live
pub live_rows-more : (w : ℕ → List ℕ) (from : ℕ) (counts : List ℕ) (n : ℕ) → live_rows w from (counts ++ replicate n 0) ≡ live_rows w from counts
live_rows-more w from [] zero = refl
live_rows-more w from [] (suc n) = live_rows-more w (from + 1) [] n
live_rows-more w from (count ∷ counts) n = ap (λ (l : List Counted). cond (count == 0) l (row from count (w from) ∷ l)) (live_rows-more w (from + 1) counts n)

count_of-before : (w : ℕ → List ℕ) (from : ℕ) (counts : List ℕ) (id : ℕ) → id < from → count_of (live_rows w from counts) id ≡ 0
count_of-before w from [] id le = refl
count_of-before w from (count ∷ counts) id le = by (count == 0) (count_of-before w (from + 1) counts id (omega arith))
  where
    rest : List Counted
    rest = live_rows w (from + 1) counts

    by : (c : Bool) → count_of rest id ≡ 0 → count_of (cond c rest (row from count (w from) ∷ rest)) id ≡ 0
    by true h = h
    by false h = ap (λ (c : Bool). cond c count (count_of rest id)) (ne_eqb from id (λ e. omega arith)) ∙ h

-- the count of a row, read from the live ones
pub count_of-live : (w : ℕ → List ℕ) (from : ℕ) (counts : List ℕ) (id i : ℕ) → id ≡ from + i → count_of (live_rows w from counts) id ≡ get_or counts i 0
count_of-live w from [] id i at = refl
count_of-live w from (count ∷ counts) id zero at = by (count == 0) refl
  where
    rest : List Counted
    rest = live_rows w (from + 1) counts

    by : (c : Bool) → (count == 0) ≡ c → count_of (cond c rest (row from count (w from) ∷ rest)) id ≡ count
    by true e = count_of-before w (from + 1) counts id (omega arith) ∙ sym (eqb-true count 0 e)
    by false e = ap (λ (c : Bool). cond c count (count_of rest id)) (eq-eqb from id (omega arith))
count_of-live w from (count ∷ counts) id (suc i) at = by (count == 0) (count_of-live w (from + 1) counts id i (omega arith))
  where
    rest : List Counted
    rest = live_rows w (from + 1) counts

    by : (c : Bool) → count_of rest id ≡ get_or counts i 0 → count_of (cond c rest (row from count (w from) ∷ rest)) id ≡ get_or counts i 0
    by true h = h
    by false h = ap (λ (c : Bool). cond c count (count_of rest id)) (ne_eqb from id (λ e. omega arith)) ∙ h

-- and its words
pub words_of-live : (w : ℕ → List ℕ) (from : ℕ) (counts : List ℕ) (id i : ℕ) → id ≡ from + i → 0 < get_or counts i 0 → words_of (live_rows w from counts) id ≡ w id
words_of-live w from [] id i at some = absurd (omega arith)
words_of-live w from (count ∷ counts) id zero at some = by (count == 0) refl
  where
    rest : List Counted
    rest = live_rows w (from + 1) counts

    by : (c : Bool) → (count == 0) ≡ c → words_of (cond c rest (row from count (w from) ∷ rest)) id ≡ w id
    by true e = absurd (let none : count ≡ 0 = eqb-true count 0 e in omega arith)
    by false e = (let here : from ≡ id = omega arith in ap (λ (c : Bool). cond c (w from) (words_of rest id)) (eq-eqb from id here) ∙ ap w here)
words_of-live w from (count ∷ counts) id (suc i) at some = by (count == 0) (words_of-live w (from + 1) counts id i (omega arith) some)
  where
    rest : List Counted
    rest = live_rows w (from + 1) counts

    by : (c : Bool) → words_of rest id ≡ w id → words_of (cond c rest (row from count (w from) ∷ rest)) id ≡ w id
    by true h = h
    by false h = ap (λ (c : Bool). cond c (w from) (words_of rest id)) (ne_eqb from id (λ e. omega arith)) ∙ h

-- how many there are
pub length-live : (w : ℕ → List ℕ) (from : ℕ) (counts : List ℕ) → length (live_rows w from counts) ≡ live_of counts
length-live w from [] = refl
length-live w from (count ∷ counts) = by (count == 0) (length-live w (from + 1) counts) ∙ sym (sum_by-cons one_if count counts)
  where
    rest : List Counted
    rest = live_rows w (from + 1) counts

    by : (c : Bool) → length rest ≡ sum_by one_if counts → length (cond c rest (row from count (w from) ∷ rest)) ≡ cond c 0 1 + sum_by one_if counts
    by true h = omega (arith, h)
    by false h = omega (arith, h)

pub one_if-some : (count : ℕ) → 0 < count → one_if count ≡ 1
one_if-some count h = ap (λ (c : Bool). cond c 0 1) (ne_eqb count 0 (λ e. omega arith))

pub one_if-le : (count : ℕ) → one_if count ≤ 1
one_if-le zero = omega arith
one_if-le (suc count) = (let one = one_if-some (suc count) (omega arith) in omega (arith, one))

pub one_if-none : (count : ℕ) → count ≡ 0 → one_if count ≡ 0
one_if-none count h = rw h refl

module _ (w w' : ℕ → List ℕ) (counts : List ℕ) (i : ℕ) (le : i < length counts) where
  pub length-live_taken : get_or counts i 0 ≡ 0 → length (live_rows w' 0 (set counts i 1)) ≡ length (live_rows w 0 counts) + 1
  length-live_taken none =
      omega (arith, length-live w' 0 (set counts i 1), length-live w 0 counts, sum_by-set one_if counts i 1 0 le, one_if-some 1 (omega arith), one_if-none (get_or counts i 0) none)

  pub length-live_counted : (count : ℕ) → 0 < count → 0 < get_or counts i 0 → length (live_rows w' 0 (set counts i count)) ≡ length (live_rows w 0 counts)
  length-live_counted count some had =
      omega (arith, length-live w' 0 (set counts i count), length-live w 0 counts, sum_by-set one_if counts i count 0 le, one_if-some count some, one_if-some (get_or counts i 0) had)

  pub length-live_given : 0 < get_or counts i 0 → length (live_rows w' 0 (set counts i 0)) + 1 ≡ length (live_rows w 0 counts)
  length-live_given had =
      omega (arith, length-live w' 0 (set counts i 0), length-live w 0 counts, sum_by-set one_if counts i 0 0 le, one_if-none 0 refl, one_if-some (get_or counts i 0) had)

-- what the live rows are
pub AreRows-live : (w : ℕ → List ℕ) (from least : ℕ) (counts : List ℕ) → least ≤ from → ((k : ℕ) → k < from + length counts → length (w k) ≡ 8) → AreRows least (live_rows w from counts)
AreRows-live w from least [] le eight = tt
AreRows-live w from least (count ∷ counts) le eight =
    by (count == 0) refl (AreRows-live w (from + 1) least counts (omega arith) (λ k lt. eight k (omega arith)))
    (AreRows-live w (from + 1) (from + 1) counts (omega arith) (λ k lt. eight k (omega arith)))
  where
    rest : List Counted
    rest = live_rows w (from + 1) counts

    by : (c : Bool) → (count == 0) ≡ c → AreRows least rest → AreRows (from + 1) rest → AreRows least (cond c rest (row from count (w from) ∷ rest))
    by true e all later = all
    by false e all later = (le, (let some : count ≡ 0 → ⊥ = eqb-false count 0 e in positive count some), eight from (omega arith), later)
      where
        positive : (n : ℕ) → (n ≡ 0 → ⊥) → 0 < n
        positive zero h = absurd (h refl)
        positive (suc n) h = omega arith
