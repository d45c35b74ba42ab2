-- Rows of one place.
use Rattle.std.proofs.Common.{◌≡◌, ℕ, zero, suc, ◌<◌, ◌≤◌, ◌+◌, Bool, true, false, cond, ◌&&◌, List, [], ◌∷◌, length, refl, sym, ap, ◌∙◌, eqb, inl, inr, arith}
use Rattle.std.specs.Prelude.{filter}
use Rattle.std.specs.List.{range_with_len}
use Rattle.std.proofs.lemmas.Bool.{false≢true, cases_lt, eq-eqb, eqb-true, ne_eqb}
use Rattle.sp_bits.specs.Places.{has, meet, members_below, places_where, IsGreatest}
use Rattle.sp_model.proofs.Sets.{same_truth}
use Rattle.sp_view.specs.Sums.{IsLone}
use Rattle.sp_view.proofs.Downward.{below_from}

-- the greatest place is the only one where none is below it
pub lone_is : (row : List ℕ) (place : ℕ) → IsGreatest row place → members_below row place ≡ [] → place < 512 → IsLone row place
lone_is row place greatest none small = record {
  small = small;
  only = λ z. same_truth (has row z) (eqb z place) (into z) (λ e. ap (has row) (eqb-true z place e) ∙ greatest.member);
}
  where
    into : (z : ℕ) → has row z ≡ true → eqb z place ≡ true
    into z h =
        elim (cases_lt z place) [
          | inl less ↦ absurd (false≢true (ap (λ (l : List ℕ). has l z) (sym none) ∙ below_from row place z h less))
          | inr more ↦ (let le : z ≤ place = greatest.most z h in eq-eqb z place (omega arith))
        ]

none_in : (test t : ℕ → Bool) (b a n : ℕ) → ((z : ℕ) → test z ≡ eqb z b) → b < a → filter (λ p. test p && t p) (range_with_len a n) ≡ []
none_in test t b a zero is less = refl
none_in test t b a (suc n) is less = rw (is a, ne_eqb a b (λ e. omega arith)) (none_in test t b (a + 1) n is (omega arith))

one_in : (test t : ℕ → Bool) (b a n : ℕ) → ((z : ℕ) → test z ≡ eqb z b) → a ≤ b → b < a + n → length (filter (λ p. test p && t p) (range_with_len a n)) ≡ cond (t b) 1 0
one_in test t b a zero is le h = absurd (omega arith)
one_in test t b a (suc n) is le h =
    elim (cases_lt a b) [
      | inl less ↦ rw (is a, ne_eqb a b (λ e. omega arith)) (one_in test t b (a + 1) n is (omega arith) (omega arith))
      | inr more ↦ (let same : a ≡ b = omega arith in
          let rest : filter (λ p. test p && t p) (range_with_len (a + 1) n) ≡ [] = none_in test t b (a + 1) n is (omega arith) in
          rw (is a, eq-eqb a b same, ap t same, rest) (one (t b)))
    ]
  where
    one : (c : Bool) → length (cond c (a ∷ []) []) ≡ cond c 1 0
    one true = refl
    one false = refl

-- it shares its place with another row, or none
pub lone_meet : (row other : List ℕ) (place : ℕ) → IsLone row place → length (meet row other) ≡ cond (has other place) 1 0
unfolding places_where
lone_meet row other place lone = one_in (has row) (has other) place 0 512 lone.only (omega arith) lone.small

pub bit_small : (c : Bool) → cond {A = ℕ} c 1 0 ≤ 1
bit_small true = omega arith
bit_small false = omega arith
