-- The decimal digits of a number of 64 bits, written one after another.
use Rattle.std.proofs.Common.{ℕ, ◌≡◌, ◌<◌, ◌≤◌, ◌/◌, ◌%◌, ◌+◌, ◌^◌, ◌++◌, ◌∷◌, [], List, ap, sym, ◌∙◌, append_assoc}
use Rattle.std.specs.Fmt.{decimal}
use Rattle.std.proofs.lemmas.Fmt.{decimal_digit, decimal_step}

-- the last digit behind the others
pub last_digit : (old now all : List ℕ) (n : ℕ) → 10 ≤ n → n < 2 ^ 64 → now ≡ old ++ decimal (n / 10) → all ≡ now ++ (48 + n % 10) ∷ [] → all ≡ old ++ decimal n
last_digit old now all n more h e f =
    f ∙ ap (λ t. t ++ (48 + n % 10) ∷ []) e ∙ append_assoc old (decimal (n / 10)) ((48 + n % 10) ∷ []) ∙ ap (λ t. old ++ t) (sym (decimal_step n more h))

-- one digit alone
pub one_digit : (old all : List ℕ) (n : ℕ) → n < 10 → all ≡ old ++ (48 + n) ∷ [] → all ≡ old ++ decimal n
one_digit old all n h e = e ∙ ap (λ t. old ++ t) (sym (decimal_digit n h))
