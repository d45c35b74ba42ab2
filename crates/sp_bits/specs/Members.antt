-- A place is among those where a test passes exactly if it passes there. This is proof, which stands here since the
-- model of a row cites it.
use Rattle.std.proofs.Common.{◌≡◌, ℕ, zero, suc, ◌+◌, ◌<◌, ◌≤◌, Bool, true, false, cond, ◌||◌, ◌&&◌, List, [], ◌∷◌, refl, sym, ap, ◌∙◌, inl, inr, eqb, arith}
use Rattle.std.specs.Prelude.{filter}
use Rattle.std.specs.List.{range_with_len}
use Rattle.std.proofs.lemmas.Bool.{eqb-true, eq-eqb, cases_lt, or_right, or_left}
use Rattle.sp_bits.specs.Places.{has, places_where}

-- the members that pass are those that are members and pass
pub has-filter : (test : ℕ → Bool) (xs : List ℕ) (k : ℕ) → has (filter test xs) k ≡ (has xs k && test k)
has-filter test [] k = refl
has-filter test (x ∷ xs) k = split (test x) ∙ at (test x) (eqb x k) (λ e. sym (ap test (eqb-true x k e))) refl (has-filter test xs k)
  where
    split : (c : Bool) → has (cond c (x ∷ filter test xs) (filter test xs)) k ≡ cond c (eqb x k || has (filter test xs) k) (has (filter test xs) k)
    split true = refl
    split false = refl

    at : (c e : Bool) → (e ≡ true → test k ≡ test x) → test x ≡ c → has (filter test xs) k ≡ (has xs k && test k)
        → cond c (e || has (filter test xs) k) (has (filter test xs) k) ≡ ((e || has xs k) && test k)
    at true true same is rest = sym (same refl ∙ is)
    at true false same is rest = rest
    at false true same is rest = rest ∙ none (has xs k) (test k) (same refl ∙ is) ∙ sym (same refl ∙ is)
      where
        none : (c d : Bool) → d ≡ false → (c && d) ≡ false
        none true d e = e
        none false d e = refl
    at false false same is rest = rest

has-range : (a n k : ℕ) → a ≤ k → k < a + n → has (range_with_len a n) k ≡ true
has-range a zero k low high = absurd (omega arith)
has-range a (suc n) k low high =
    elim (cases_lt a k) [
      | inl less ↦ or_right (eqb a k) (has (range_with_len (a + 1) n) k) (has-range (a + 1) n k (omega arith) (omega arith))
      | inr le ↦ or_left (eqb a k) (has (range_with_len (a + 1) n) k) (eq-eqb a k (omega arith))
    ]

-- a place is among those where a test passes if it passes there
pub has-places_where : (test : ℕ → Bool) (k : ℕ) → k < 512 → has (places_where test) k ≡ test k
unfolding places_where
has-places_where test k le =
    has-filter test (range_with_len 0 512) k ∙ ap (λ (c : Bool). c && test k) (has-range 0 512 k (omega arith) (omega arith))
