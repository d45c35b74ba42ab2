-- The place of a number in a list, and what stands there.
use Rattle.std.proofs.Common.{◌≡◌, ℕ, zero, suc, ◌+◌, ◌<◌, Bool, cond, List, [], ◌∷◌, ◌++◌, Some, None, position, refl, sym, ap, ◌∙◌, inl, inr, arith}
use Rattle.std.specs.Prelude.{nat_eq, slice_get}
use Rattle.std.specs.List.{position_from}
use Rattle.std.proofs.lemmas.Bool.{cases_Bool, eqb-true}
use Rattle.std.proofs.lemmas.Iterator.Adapters.{position_from-zero}
use Rattle.sp_money.specs.Locks.{with_id}
use Rattle.sp_carry.proofs.Places.{has_place}

pub known_id : (xs : List ℕ) (k n : ℕ) → position (nat_eq k) xs ≡ Some n → with_id xs k ≡ xs
known_id xs k n at = rw (has_place xs k, at) refl

pub new_id : (xs : List ℕ) (k : ℕ) → position (nat_eq k) xs ≡ None → with_id xs k ≡ xs ++ k ∷ []
new_id xs k at = rw (has_place xs k, at) refl

-- what stands at the place of a number is the number
found_from : (k i n : ℕ) (xs : List ℕ) → position_from (nat_eq k) i xs ≡ Some (i + n) → slice_get xs n ≡ Some k
found_from k i n [] e = cc
found_from k i zero (x ∷ xs) e = elim (cases_Bool (nat_eq k x)) [
  | inl same ↦ ap (λ (j : ℕ). Some j) (sym (eqb-true k x same))
  | inr other ↦
      let rest : position_from (nat_eq k) (i + 1) xs ≡ Some (i + 0) = sym (ap (λ (b : Bool). cond b (Some i) (position_from (nat_eq k) (i + 1) xs)) other) ∙ e in
      absurd (above (i + 1) xs (i + 0) rest (omega arith))
]
  where
    above : (j : ℕ) (xs : List ℕ) (at : ℕ) → position_from (nat_eq k) j xs ≡ Some at → at < j → ⊥
    above j [] at e lt = cc
    above j (x ∷ xs) at e lt = elim (cases_Bool (nat_eq k x)) [
      | inl same ↦
          let here : Some j ≡ Some at = sym (ap (λ (b : Bool). cond b (Some j) (position_from (nat_eq k) (j + 1) xs)) same) ∙ e in
          let is : j ≡ at = cc in omega arith
      | inr other ↦ above (j + 1) xs at (sym (ap (λ (b : Bool). cond b (Some j) (position_from (nat_eq k) (j + 1) xs)) other) ∙ e) (omega arith)
    ]
found_from k i (suc n) (x ∷ xs) e = elim (cases_Bool (nat_eq k x)) [
  | inl same ↦
      let here : Some i ≡ Some (i + suc n) = sym (ap (λ (b : Bool). cond b (Some i) (position_from (nat_eq k) (i + 1) xs)) same) ∙ e in
      let is : i ≡ i + suc n = cc in absurd (omega arith)
  | inr other ↦
      let next : i + suc n ≡ (i + 1) + n = omega arith in
      found_from k (i + 1) n xs (sym (ap (λ (b : Bool). cond b (Some i) (position_from (nat_eq k) (i + 1) xs)) other) ∙ e ∙ ap (λ (j : ℕ). Some j) next)
]

pub found : (xs : List ℕ) (k n : ℕ) → position (nat_eq k) xs ≡ Some n → slice_get xs n ≡ Some k
found xs k n e =
    let start : n ≡ 0 + n = omega arith in
    found_from k 0 n xs (sym (position_from-zero (nat_eq k) xs) ∙ e ∙ ap (λ (j : ℕ). Some j) start)
