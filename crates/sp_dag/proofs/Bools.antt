-- Equality tests of numbers, and the tests that are made of them.
use Rattle.std.proofs.Common.{◌≡◌, ℕ, ◌<◌, Bool, true, false, ◌||◌, refl, sym, eqb, arith}
use Rattle.std.proofs.lemmas.Bool.{eqb-true, eq-eqb, ne_eqb}

same_bool : (a b : Bool) → (a ≡ true → b ≡ true) → (b ≡ true → a ≡ true) → a ≡ b
same_bool true b there back = sym (there refl)
same_bool false true there back = back refl
same_bool false false there back = refl

pub eqb_flip : (a b : ℕ) → eqb a b ≡ eqb b a
eqb_flip a b = same_bool (eqb a b) (eqb b a) (λ e. eq-eqb b a (sym (eqb-true a b e))) (λ e. eq-eqb a b (sym (eqb-true b a e)))

-- the lower of two numbers isn't the other
pub eqb_apart : (a b : ℕ) → a < b → eqb a b ≡ false
eqb_apart a b le = ne_eqb a b (λ same. omega arith)

pub or_comm : (c d : Bool) → (c || d) ≡ (d || c)
or_comm true true = refl
or_comm true false = refl
or_comm false true = refl
or_comm false false = refl

pub or_false : (c : Bool) → (c || false) ≡ c
or_false true = refl
or_false false = refl
