-- How many digits a number of 8 bits has.
use Rattle.std.proofs.Common.{ℕ, ◌≡◌, ◌<◌, ◌≤◌, ◌+◌, ◌^◌, ◌++◌, List, length, ap, length-append, arith}
use Rattle.std.specs.Fmt.{decimal}
use Rattle.std.proofs.lemmas.Fmt.{length-decimal-le}

pub size_of_8 : (old all : List ℕ) (n : ℕ) → n < 2 ^ 8 → all ≡ old ++ decimal n → length all ≤ length old + 3
size_of_8 old all n h e =
    let few : length (decimal n) ≤ 3 = length-decimal-le 3 n (omega arith) (omega (arith, h)) (omega (arith, h)) in
    omega (arith, ap length e, length-append old (decimal n))
