-- Rows by the tests that their places pass.
use Rattle.std.proofs.Common.{◌≡◌, ℕ, ◌<◌, Bool, true, false, cond, ◌||◌, ◌&&◌, List, [], ◌∷◌, refl, sym, ap, ◌∙◌, inl, inr, arith}
use Rattle.std.specs.Prelude.{not, filter}
use Rattle.std.specs.List.{range_with_len}
use Rattle.std.proofs.lemmas.Bool.{cases_lt, false_from_ne_true, and_parts, or_cases}
use Rattle.sp_bits.specs.Places.{has, places_where, union, meet, difference, IsRow}
use Rattle.sp_bits.specs.Members.{has-places_where}
use Rattle.sp_bits.proofs.Counts.{has-small}
use Rattle.sp_bits.proofs.Sets.{places_same}

-- those that pass both tests
pub filter-filter : (p q : ℕ → Bool) (xs : List ℕ) → filter q (filter p xs) ≡ filter (λ x. p x && q x) xs
filter-filter p q [] = refl
filter-filter p q (x ∷ xs) = at (p x) (q x) (filter-filter p q xs)
  where
    at : (a b : Bool) → filter q (filter p xs) ≡ filter (λ x. p x && q x) xs → filter q (cond a (x ∷ filter p xs) (filter p xs)) ≡ cond (a && q x) (x ∷ filter (λ x. p x && q x) xs) (filter (λ x. p x && q x) xs)
    at true b rest = ap (λ (l : List ℕ). cond (q x) (x ∷ l) l) rest
    at false b rest = rest

-- each place of a row is below 512
pub row_small : (set : List ℕ) (k : ℕ) → IsRow set → has set k ≡ true → k < 512
unfolding IsRow
row_small set k row h = has-small (has set) k (ap (λ (l : List ℕ). has l k) (sym row) ∙ h)

-- a place is among those where a test passes if it passes there, where it passes at no place from 512 on
pub has_places : (test : ℕ → Bool) (k : ℕ) → (test k ≡ true → k < 512) → has (places_where test) k ≡ test k
has_places test k small =
    elim (cases_lt k 512) [
      | inl less ↦ has-places_where test k less
      | inr more ↦ false_from_ne_true (has (places_where test) k) (λ h. (let le : k < 512 = has-small test k h in omega arith))
          ∙ sym (false_from_ne_true (test k) (λ h. (let le : k < 512 = small h in omega arith)))
    ]

pub has_union : (one other : List ℕ) (k : ℕ) → (has one k ≡ true → k < 512) → (has other k ≡ true → k < 512) → has (union one other) k ≡ (has one k || has other k)
has_union one other k a b = has_places (λ p. has one p || has other p) k (λ h. elim (or_cases (has one k) (has other k) h) [ inl x ↦ a x | inr y ↦ b y ])

pub has_meet : (one other : List ℕ) (k : ℕ) → (has other k ≡ true → k < 512) → has (meet one other) k ≡ (has one k && has other k)
has_meet one other k b = has_places (λ p. has one p && has other p) k (λ h. b (and_parts (has one k) (has other k) h).1)

pub has_difference : (one other : List ℕ) (k : ℕ) → (has one k ≡ true → k < 512) → has (difference one other) k ≡ (has one k && not (has other k))
has_difference one other k a = has_places (λ p. has one p && not (has other p)) k (λ h. a (and_parts (has one k) (not (has other k)) h).0)

-- the members of a row that pass a test are a row
pub filter_row : (set : List ℕ) (test : ℕ → Bool) → IsRow set → filter test set ≡ places_where (λ z. has set z && test z)
unfolding IsRow places_where
filter_row set test row = ap (filter test) row ∙ filter-filter (has set) test (range_with_len 0 512)

-- rows of the same places are the same
pub rows_same : (one other : List ℕ) → IsRow one → IsRow other → ((k : ℕ) → k < 512 → has one k ≡ has other k) → one ≡ other
unfolding IsRow
rows_same one other row row' same = row ∙ places_same (has one) (has other) same ∙ sym row'
