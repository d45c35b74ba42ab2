-- Signs and sums of signed numbers.
use Rattle.std.proofs.Common.{◌≡◌, ℕ, zero, suc, true, List, [], ◌∷◌, refl, arith, inl, inr, eqb}
use Rattle.std.specs.Prelude.{ℤ, pos, negsuc, ◌+ℤ◌, neg_ℤ, ◌≤ℤ◌, ◌<ℤ◌}
use Rattle.std.proofs.lemmas.Int.{ints}
use Rattle.std.proofs.lemmas.Bool.{eq-eqb, eqb-true, or_left, or_right, or_cases, false≢true}
use Rattle.sp_model.specs.Graph.{has}
use Rattle.sp_model.specs.Votes.{total, sgn}

pub sgn-neg_ℤ : (n : ℤ) → sgn (neg_ℤ n) ≡ neg_ℤ (sgn n)
sgn-neg_ℤ (negsuc n) = refl
sgn-neg_ℤ (pos zero) = refl
sgn-neg_ℤ (pos (suc n)) = refl

neg_ℤ-add : (a b : ℤ) → neg_ℤ a +ℤ neg_ℤ b ≡ neg_ℤ (a +ℤ b)
neg_ℤ-add a b = omega (arith, ints)

pub total_neg : (f g : ℕ → ℤ) (xs : List ℕ) → ((x : ℕ) → has xs x ≡ true → f x ≡ neg_ℤ (g x)) → total f xs ≡ neg_ℤ (total g xs)
total_neg f g [] h = refl
total_neg f g (x ∷ xs) h =
    let here : f x ≡ neg_ℤ (g x) = h x (or_left (eqb x x) (has xs x) (eq-eqb x x refl)) in
    let rest : total f xs ≡ neg_ℤ (total g xs) = total_neg f g xs (λ y there. h y (or_right (eqb x y) (has xs y) there)) in
    cc (here, rest, neg_ℤ-add (g x) (total g xs))

-- a sum of terms of at most 0
pub total_low : (f : ℕ → ℤ) (xs : List ℕ) → ((x : ℕ) → has xs x ≡ true → f x ≤ℤ pos 0) → total f xs ≤ℤ pos 0
total_low f [] h = omega (arith, ints)
total_low f (x ∷ xs) h =
    let here : f x ≤ℤ pos 0 = h x (or_left (eqb x x) (has xs x) (eq-eqb x x refl)) in
    let rest : total f xs ≤ℤ pos 0 = total_low f xs (λ y there. h y (or_right (eqb x y) (has xs y) there)) in
    omega (arith, ints)

-- one of which is below 0
pub total_below : (f : ℕ → ℤ) (xs : List ℕ) (y : ℕ) → ((x : ℕ) → has xs x ≡ true → f x ≤ℤ pos 0) → has xs y ≡ true → f y <ℤ pos 0 → total f xs <ℤ pos 0
total_below f [] y h member low = absurd (false≢true member)
total_below f (x ∷ xs) y h member low =
    let here : f x ≤ℤ pos 0 = h x (or_left (eqb x x) (has xs x) (eq-eqb x x refl)) in
    let tail : (w : ℕ) → has xs w ≡ true → f w ≤ℤ pos 0 = λ w there. h w (or_right (eqb x w) (has xs w) there) in
    let rest : total f xs ≤ℤ pos 0 = total_low f xs tail in
    elim (or_cases (eqb x y) (has xs y) member) [
      | inl same ↦ (let e : x ≡ y = eqb-true x y same in let at : f x <ℤ pos 0 = rw e low in omega (arith, ints))
      | inr there ↦ (let r : total f xs <ℤ pos 0 = total_below f xs y tail there low in omega (arith, ints))
    ]

pub sgn_low : (n : ℤ) → n ≤ℤ pos 0 → sgn n ≤ℤ pos 0
sgn_low (negsuc n) h = omega (arith, ints)
sgn_low (pos zero) h = h
sgn_low (pos (suc n)) h = absurd (omega (arith, ints))

pub sgn_below : (n : ℤ) → n <ℤ pos 0 → sgn n ≡ negsuc 0
sgn_below (negsuc n) h = refl
sgn_below (pos zero) h = absurd (omega (arith, ints))
sgn_below (pos (suc n)) h = absurd (omega (arith, ints))
