-- A list of numbers has one ascending order, and a sort leaves it.
use Rattle.std.proofs.Common.{◌≡◌, ℕ, suc, ◌+◌, ◌<◌, ◌≤◌, cond, List, [], ◌∷◌, eqb, nat_le, nat_cmp, sum_by, All, IsPermutation, IsSorted, inl, inr, refl, sym, ap, ap₂, ◌∙◌, arith}
use Rattle.std.specs.Prelude.{⊤}
use Rattle.std.specs.List.Sorted.{IsNonDecreasing}
use Rattle.std.proofs.lemmas.Bool.{cases_Bool, cases_lt, eq-eqb, ne_eqb, leb-true, leb-false, cond-true, cond-false}
use Rattle.std.proofs.lemmas.List.Elements.{All-nil, All-cons, All-head, All-tail, All-weaker}
use Rattle.std.proofs.lemmas.List.Sorted.{IsNonDecreasingBy-from_sort, sum_by-IsPermutation}
use Rattle.std.proofs.lemmas.List.Sums.{sum_by-cons}
use Rattle.sp_block.specs.Ascending.{ascending, put_in}

-- each number is at most all those behind it
abbrev Ascends : List ℕ → Type 0
Ascends [] = ⊤
Ascends (x ∷ xs) = All (λ y. x ≤ y) xs × Ascends xs

-- ---- two ascending lists of the same sums are one list

-- 1 at this number, 0 elsewhere
abbrev one_at : ℕ → ℕ → ℕ
one_at x y = cond (eqb y x) 1 0

abbrev HaveSameSums : List ℕ → List ℕ → Type 0
HaveSameSums xs ys = (f : ℕ → ℕ) → sum_by f xs ≡ sum_by f ys

-- a number below all of them isn't among them
none_of_lower : (x : ℕ) (ys : List ℕ) → All (λ y. x < y) ys → sum_by (one_at x) ys ≡ 0
none_of_lower x [] above = refl
none_of_lower x (y ∷ ys) above =
    let other : one_at x y ≡ 0 = cond-false (eqb y x) 1 0 (ne_eqb y x (λ e. let h : x < y = All-head (λ z. x < z) y ys above in omega arith)) in
    let rest : sum_by (one_at x) ys ≡ 0 = none_of_lower x ys (All-tail (λ z. x < z) y ys above) in
    omega (arith, sum_by-cons (one_at x) y ys)

-- the head of a list of the same sums is no lower
head_le : (x y : ℕ) (xs ys : List ℕ) → Ascends (x ∷ xs) → HaveSameSums (x ∷ xs) (y ∷ ys) → x ≤ y
head_le x y xs ys up same =
    elim (cases_lt y x) [
      | inl below ↦
          let above : All (λ z. y < z) (x ∷ xs) = All-cons (λ z. y < z) x xs below (All-weaker (λ z. x ≤ z) (λ z. y < z) (λ z h. omega arith) xs up.0) in
          let none : sum_by (one_at y) (x ∷ xs) ≡ 0 = none_of_lower y (x ∷ xs) above in
          let here : one_at y y ≡ 1 = cond-true (eqb y y) 1 0 (eq-eqb y y refl) in
          absurd (omega (arith, sum_by-cons (one_at y) y ys, same (one_at y)))
      | inr le ↦ le
    ]

-- so each list is the other
pub one_order : (xs ys : List ℕ) → Ascends xs → Ascends ys → HaveSameSums xs ys → xs ≡ ys
one_order [] [] up up' same = refl
one_order [] (y ∷ ys) up up' same = absurd (omega (arith, sum_by-cons (λ (z : ℕ). 1) y ys, same (λ z. 1)))
one_order (x ∷ xs) [] up up' same = absurd (omega (arith, sum_by-cons (λ (z : ℕ). 1) x xs, same (λ z. 1)))
one_order (x ∷ xs) (y ∷ ys) up up' same =
    let low : x ≤ y = head_le x y xs ys up same in
    let high : y ≤ x = head_le y x ys xs up' (λ f. sym (same f)) in
    let heads : x ≡ y = omega arith in
    let rest : HaveSameSums xs ys = λ f. let e : f x ≡ f y = ap f heads in omega (arith, sum_by-cons f x xs, sum_by-cons f y ys, same f) in
    ap₂ (λ (z : ℕ) (zs : List ℕ). z ∷ zs) heads (one_order xs ys up.1 up'.1 rest)

-- ---- `ascending` is ascending, and has the sums of its list

put_in_sums : (f : ℕ → ℕ) (x : ℕ) (ys : List ℕ) → sum_by f (put_in x ys) ≡ f x + sum_by f ys
put_in_sums f x [] = sum_by-cons f x []
put_in_sums f x (y ∷ ys) =
    elim (cases_Bool (nat_le x y)) [
      | inl le ↦ rw le (sum_by-cons f x (y ∷ ys))
      | inr gt ↦ rw gt (omega (arith, sum_by-cons f y (put_in x ys), sum_by-cons f y ys, put_in_sums f x ys))
    ]

ascending_sums : (f : ℕ → ℕ) (xs : List ℕ) → sum_by f (ascending xs) ≡ sum_by f xs
unfolding ascending
ascending_sums f [] = refl
ascending_sums f (x ∷ xs) = omega (arith, put_in_sums f x (ascending xs), sum_by-cons f x xs, ascending_sums f xs)

put_in_above : (low x : ℕ) (ys : List ℕ) → low ≤ x → All (λ y. low ≤ y) ys → All (λ y. low ≤ y) (put_in x ys)
put_in_above low x [] h all = All-cons (λ y. low ≤ y) x [] h all
put_in_above low x (y ∷ ys) h all =
    elim (cases_Bool (nat_le x y)) [
      | inl le ↦ rw le (All-cons (λ z. low ≤ z) x (y ∷ ys) h all)
      | inr gt ↦ rw gt (All-cons (λ z. low ≤ z) y (put_in x ys) (All-head (λ z. low ≤ z) y ys all) (put_in_above low x ys h (All-tail (λ z. low ≤ z) y ys all)))
    ]

put_in_ascends : (x : ℕ) (ys : List ℕ) → Ascends ys → Ascends (put_in x ys)
put_in_ascends x [] up = (All-nil (λ y. x ≤ y), tt)
put_in_ascends x (y ∷ ys) up =
    elim (cases_Bool (nat_le x y)) [
      | inl is_le ↦
          let le : x ≤ y = leb-true x y is_le in
          rw is_le (All-cons (λ z. x ≤ z) y ys le (All-weaker (λ z. y ≤ z) (λ z. x ≤ z) (λ z h. omega arith) ys up.0), up)
      | inr is_gt ↦
          let lt : y < x = leb-false x y is_gt in
          rw is_gt (put_in_above y x ys (omega arith) up.0, put_in_ascends x ys up.1)
    ]

ascending_ascends : (xs : List ℕ) → Ascends (ascending xs)
unfolding ascending
ascending_ascends [] = tt
ascending_ascends (x ∷ xs) = put_in_ascends x (ascending xs) (ascending_ascends xs)

-- ---- what a sort leaves

sorted_ascends : (xs : List ℕ) → IsNonDecreasing xs → Ascends xs
sorted_ascends [] up = tt
sorted_ascends (x ∷ xs) up =
    (λ k d h. up 0 (suc k) d (omega arith) (omega arith), sorted_ascends xs (λ i j d le h. up (suc i) (suc j) d (omega arith) (omega arith)))

-- a sorted permutation of a list is `ascending` of it
pub sort_is_ascending : (xs ys : List ℕ) → IsPermutation xs ys → IsSorted nat_cmp ys → ys ≡ ascending xs
sort_is_ascending xs ys moved sorted =
    one_order ys (ascending xs) (sorted_ascends ys (IsNonDecreasingBy-from_sort (λ x. x) ys sorted)) (ascending_ascends xs)
    (λ f. sum_by-IsPermutation f xs ys moved ∙ sym (ascending_sums f xs))

-- the order in which the numbers stood before doesn't matter
pub ascending_permuted : (xs ys : List ℕ) → IsPermutation xs ys → ascending xs ≡ ascending ys
ascending_permuted xs ys moved =
    one_order (ascending xs) (ascending ys) (ascending_ascends xs) (ascending_ascends ys)
    (λ f. ascending_sums f xs ∙ sym (sum_by-IsPermutation f xs ys moved) ∙ sym (ascending_sums f ys))
