-- The places of a row below one of them.
use Rattle.std.proofs.Common.{◌≡◌, ℕ, ◌<◌, ◌≤◌, Bool, true, false, cond, ◌&&◌, List, [], ◌∷◌, refl, sym, ap, ◌∙◌, eqb, nat_lt, arith}
use Rattle.std.specs.Prelude.{filter}
use Rattle.std.specs.List.{range_with_len}
use Rattle.std.proofs.lemmas.Bool.{eq-eqb, lt-ltb, or_left, or_right}
use Rattle.sp_bits.specs.Places.{has, places_where, members_below, IsRow}
use Rattle.sp_bits.specs.Members.{has-places_where}
use Rattle.sp_bits.proofs.RowSets.{row_small}
use Rattle.sp_bits.proofs.Sets.{places_same}

filter-twice : (p q : ℕ → Bool) (xs : List ℕ) → filter p (filter q xs) ≡ filter (λ k. q k && p k) xs
filter-twice p q [] = refl
filter-twice p q (x ∷ xs) = at (q x) (filter-twice p q xs)
  where
    at : (c : Bool) → filter p (filter q xs) ≡ filter (λ k. q k && p k) xs
        → filter p (cond c (x ∷ filter q xs) (filter q xs)) ≡ cond (c && p x) (x ∷ filter (λ k. q k && p k) xs) (filter (λ k. q k && p k) xs)
    at true rest = ap (λ (l : List ℕ). cond (p x) (x ∷ l) l) rest
    at false rest = rest

filter-all : (p : ℕ → Bool) (xs : List ℕ) → ((k : ℕ) → has xs k ≡ true → p k ≡ true) → filter p xs ≡ xs
filter-all p [] h = refl
filter-all p (x ∷ xs) h =
    ap (λ (c : Bool). cond c (x ∷ filter p xs) (filter p xs)) (h x (or_left (eqb x x) (has xs x) (eq-eqb x x refl)))
    ∙ ap (λ (l : List ℕ). x ∷ l) (filter-all p xs (λ k there. h k (or_right (eqb x k) (has xs k) there)))

-- what is left is a row
pub IsRow-places : (test : ℕ → Bool) → IsRow (places_where test)
unfolding IsRow
IsRow-places test = places_same test (has (places_where test)) (λ k le. sym (has-places_where test k le))

-- the places below one of them that pass a test
pub members_below-places : (test : ℕ → Bool) (place : ℕ) → members_below (places_where test) place ≡ places_where (λ p. test p && nat_lt p place)
unfolding places_where
members_below-places test place = filter-twice (λ p. nat_lt p place) test (range_with_len 0 512)

-- where all places are below it, all stay
pub members_below-all : (s : List ℕ) (place : ℕ) → IsRow s → 512 ≤ place → s ≡ members_below s place
members_below-all s place row more =
    sym (filter-all (λ p. nat_lt p place) s (λ k there. (let small : k < 512 = row_small s k row there in lt-ltb k place (omega arith))))
