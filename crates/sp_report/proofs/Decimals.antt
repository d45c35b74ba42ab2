-- The decimal digits of a number of 128 bits, written one after another.
use Rattle.std.proofs.Common.{ℕ, ◌≡◌, ◌<◌, ◌≤◌, ◌/◌, ◌%◌, ◌+◌, ◌^◌, ◌++◌, ◌∷◌, [], List, length, ap, sym, ◌∙◌, append_assoc, length-append, arith}
use Rattle.std.specs.Fmt.{decimal}
use Rattle.std.proofs.lemmas.Fmt.{length-decimal-le, length-decimal-le_wide, decimal_digit, decimal_step_wide}

-- but for the last digit there is one less
pub fewer_digits : (n : ℕ) → 10 ≤ n → n < 2 ^ 128 → length (decimal n) ≡ length (decimal (n / 10)) + 1
fewer_digits n more h =
    ap length (decimal_step_wide n more (omega arith)) ∙ length-append (decimal (n / 10)) ((48 + n % 10) ∷ [])

-- a number of one digit
pub one_alone : (n : ℕ) → n < 10 → length (decimal n) ≡ 1
one_alone n h = ap length (decimal_digit n h)

-- the last digit behind the others
pub last_digit : (old now all : List ℕ) (n : ℕ) → 10 ≤ n → n < 2 ^ 128 → now ≡ old ++ decimal (n / 10) → all ≡ now ++ (48 + n % 10) ∷ [] → all ≡ old ++ decimal n
last_digit old now all n more h e f =
    f ∙ ap (λ t. t ++ (48 + n % 10) ∷ []) e ∙ append_assoc old (decimal (n / 10)) ((48 + n % 10) ∷ []) ∙ ap (λ t. old ++ t) (sym (decimal_step_wide n more (omega arith)))

-- one digit alone
pub one_digit : (old all : List ℕ) (n : ℕ) → n < 10 → all ≡ old ++ (48 + n % 10) ∷ [] → all ≡ old ++ decimal n
one_digit old all n h e =
    let same : n % 10 ≡ n = omega arith in
    e ∙ ap (λ (k : ℕ). old ++ (48 + k) ∷ []) same ∙ ap (λ t. old ++ t) (sym (decimal_digit n h))

-- a number of 64 bits has at most 20, and one of 128 bits at most 39
pub fits_64 : (old : List ℕ) (n : ℕ) → length old ≤ 172 → n < 2 ^ 64 → length old + length (decimal n) ≤ 192
fits_64 old n room h = let few : length (decimal n) ≤ 20 = length-decimal-le 20 n (omega arith) (omega arith) h in omega arith

pub size_of_64 : (old all : List ℕ) (n : ℕ) → n < 2 ^ 64 → all ≡ old ++ decimal n → length all ≤ length old + 20
size_of_64 old all n h e =
    let few : length (decimal n) ≤ 20 = length-decimal-le 20 n (omega arith) (omega arith) h in
    omega (arith, ap length e, length-append old (decimal n))

pub fits_128 : (old : List ℕ) (n : ℕ) → length old ≤ 153 → n < 2 ^ 128 → length old + length (decimal n) ≤ 192
fits_128 old n room h = let few : length (decimal n) ≤ 39 = length-decimal-le_wide 39 n (omega arith) (omega arith) (omega arith) in omega arith

pub size_of_128 : (old all : List ℕ) (n : ℕ) → n < 2 ^ 128 → all ≡ old ++ decimal n → length all ≤ length old + 39
size_of_128 old all n h e =
    let few : length (decimal n) ≤ 39 = length-decimal-le_wide 39 n (omega arith) (omega arith) (omega arith) in
    omega (arith, ap length e, length-append old (decimal n))
