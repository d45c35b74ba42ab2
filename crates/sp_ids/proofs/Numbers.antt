-- The numbers of two ids are the same, and ordered, as their bytes are.
use Rattle.std.proofs.Common.{◌≡◌, ◌≢◌, ℕ, zero, suc, ◌+◌, ◌*◌, ◌^◌, ◌<◌, ◌≤◌, List, [], ◌∷◌, length, get_or, Ordering, eqb, refl, sym, ap, ◌∙◌, arith}
use Rattle.std.proofs.Math.Nat.{mul-le-mul_right}
use Rattle.std.specs.Bool.{Decides}
use Rattle.std.specs.Cmp.{nat_cmp_is}
use Rattle.std.specs.Cmp.Lexicographic.{pointwise, slice_cmp}
use Rattle.std.specs.Ordering.{MatchOrdering, nat_cmp, ordering_then}
use Rattle.std.specs.declared.cmp.Ordering.TheVariants.{Less, Equal, Greater}
use Rattle.std.proofs.lemmas.Bool.Decides.{same_from_decides, Decides-eqb}
use Rattle.std.proofs.lemmas.Cmp.{ranked}
use Rattle.std.proofs.lemmas.Slice.Eq.{bytes_eq-Decides}
use Rattle.sp_ids.specs.Key.{number_of, bytes_of, AreBytes}
use Rattle.sp_ids.specs.Digits.{bytes_of_number, number_of-below, number_of-cons}

-- the bytes of the number that contracts see
pub bytes_seen : (bytes : List ℕ) (number : ℕ) → number_of bytes ≡ number → AreBytes bytes → bytes_of number ≡ bytes
bytes_seen bytes number seen h = ap bytes_of (sym seen) ∙ bytes_of_number bytes h

-- the same bytes have the same number, and no others have it
pub same_number : (xs ys : List ℕ) → AreBytes xs → AreBytes ys → pointwise eqb xs ys ≡ eqb (number_of xs) (number_of ys)
same_number xs ys left right =
    let same : number_of xs ≡ number_of ys → xs ≡ ys = λ e. sym (bytes_of_number xs left) ∙ ap bytes_of e ∙ bytes_of_number ys right in
    let by_bytes : Decides (pointwise eqb xs ys) (xs ≡ ys) = bytes_eq-Decides xs ys in
    let by_number : Decides (eqb (number_of xs) (number_of ys)) (number_of xs ≡ number_of ys) = Decides-eqb (number_of xs) (number_of ys) in
    same_from_decides {P = xs ≡ ys} (pointwise eqb xs ys) (eqb (number_of xs) (number_of ys)) by_bytes (λ e. same (by_number.0 e), λ e. by_number.1 (ap number_of e))

-- x times p and a number below p are ordered by x first
below_by_first : (x y p a b : ℕ) → x < y → a < p → x * p + a < y * p + b
below_by_first x y p a b less small =
    let most : (x + 1) * p ≤ y * p = mul-le-mul_right p (omega arith) in
    omega arith

-- so the first parts decide, and the rest where they are the same
first_decides : (x y p a b : ℕ) (first rest : Ordering) → a < p → b < p → MatchOrdering first (x < y) (x ≡ y) (y < x) → MatchOrdering rest (a < b) (a ≡ b) (b < a)
    → ordering_then first rest ≡ nat_cmp (x * p + a) (y * p + b)
first_decides x y p a b Less rest left right h g = nat_cmp_is (x * p + a) (y * p + b) Less (below_by_first x y p a b h left)
first_decides x y p a b Greater rest left right h g = nat_cmp_is (x * p + a) (y * p + b) Greater (below_by_first y x p b a h right)
first_decides x y p a b Equal Less left right h g = rw h (nat_cmp_is (y * p + a) (y * p + b) Less (omega arith))
first_decides x y p a b Equal Equal left right h g = rw (h, g) (nat_cmp_is (y * p + b) (y * p + b) Equal refl)
first_decides x y p a b Equal Greater left right h g = rw h (nat_cmp_is (y * p + a) (y * p + b) Greater (omega arith))

-- bytes of one length are ordered, the first of them first, as their numbers are
pub compared : (xs ys : List ℕ) → length xs ≡ length ys → ((k : ℕ) → k < length xs → get_or xs k 0 < 256) → ((k : ℕ) → k < length ys → get_or ys k 0 < 256)
    → slice_cmp nat_cmp xs ys ≡ nat_cmp (number_of xs) (number_of ys)
compared [] [] long left right = nat_cmp_is (number_of []) (number_of []) Equal refl
compared [] (y ∷ ys) long left right = absurd (omega arith)
compared (x ∷ xs) [] long left right = absurd (omega arith)
compared (x ∷ xs) (y ∷ ys) long left right =
    let below_left : (k : ℕ) → k < length xs → get_or xs k 0 < 256 = λ k h. left (suc k) (omega arith) in
    let below_right : (k : ℕ) → k < length ys → get_or ys k 0 < 256 = λ k h. right (suc k) (omega arith) in
    let same : length xs ≡ length ys = omega arith in
    let rest = compared xs ys same below_left below_right in
    let a : number_of xs < 256 ^ length ys = rw same at (number_of-below xs below_left) in
    let b : number_of ys < 256 ^ length ys = number_of-below ys below_right in
    rw (number_of-cons x xs, number_of-cons y ys, same)
    (first_decides x y (256 ^ length ys) (number_of xs) (number_of ys) (nat_cmp x y) (slice_cmp nat_cmp xs ys) a b (ranked x y (nat_cmp x y) refl) (ranked (number_of xs) (number_of ys) (slice_cmp nat_cmp xs ys) rest))

-- ids are ordered, the first byte first, as their numbers are
pub same_order : (xs ys : List ℕ) → AreBytes xs → AreBytes ys → slice_cmp nat_cmp xs ys ≡ nat_cmp (number_of xs) (number_of ys)
same_order xs ys left right =
    compared xs ys (left.long ∙ sym right.long) (λ k h. left.small k (omega (arith, left.long))) (λ k h. right.small k (omega (arith, right.long)))

-- where two lists first have other numbers, these order them
first_apart : (xs ys : List ℕ) (place : ℕ) → place < length xs → place < length ys → ((k : ℕ) → k < place → get_or xs k 0 ≡ get_or ys k 0)
    → get_or xs place 0 ≢ get_or ys place 0 → slice_cmp nat_cmp xs ys ≡ nat_cmp (get_or xs place 0) (get_or ys place 0)
first_apart [] ys place left right same apart = absurd (omega arith)
first_apart (x ∷ xs) [] place left right same apart = absurd (omega arith)
first_apart (x ∷ xs) (y ∷ ys) zero left right same apart = at (nat_cmp x y) (ranked x y (nat_cmp x y) refl)
  where
    at : (order : Ordering) → MatchOrdering order (x < y) (x ≡ y) (y < x) → ordering_then order (slice_cmp nat_cmp xs ys) ≡ order
    at Less less = refl
    at Equal equal = absurd (apart equal)
    at Greater greater = refl
first_apart (x ∷ xs) (y ∷ ys) (suc place) left right same apart =
    ap (λ (order : Ordering). ordering_then order (slice_cmp nat_cmp xs ys)) (sym (nat_cmp_is x y Equal (same 0 (omega arith))))
    ∙ first_apart xs ys place (omega arith) (omega arith) (λ k le. same (suc k) (omega arith)) apart

-- lists of one length that nowhere have other numbers are the same in order
never_apart : (xs ys : List ℕ) → length xs ≡ length ys → ((k : ℕ) → k < length xs → get_or xs k 0 ≡ get_or ys k 0) → Equal ≡ slice_cmp nat_cmp xs ys
never_apart [] [] long same = refl
never_apart [] (y ∷ ys) long same = absurd (omega arith)
never_apart (x ∷ xs) [] long same = absurd (omega arith)
never_apart (x ∷ xs) (y ∷ ys) long same =
    never_apart xs ys (omega arith) (λ k le. same (suc k) (omega arith))
    ∙ ap (λ (order : Ordering). ordering_then order (slice_cmp nat_cmp xs ys)) (nat_cmp_is x y Equal (same 0 (omega arith)))

-- the first byte that two ids don't share orders them
pub by_first_apart : (xs ys : List ℕ) (place : ℕ) → AreBytes xs → AreBytes ys → place < 32 → ((k : ℕ) → k < place → get_or xs k 0 ≡ get_or ys k 0)
    → get_or xs place 0 ≢ get_or ys place 0 → nat_cmp (get_or xs place 0) (get_or ys place 0) ≡ nat_cmp (number_of xs) (number_of ys)
by_first_apart xs ys place left right le same apart =
    sym (first_apart xs ys place (omega (arith, left.long, le)) (omega (arith, right.long, le)) same apart) ∙ same_order xs ys left right

-- ids that share all bytes are the same in order
pub by_none_apart : (xs ys : List ℕ) → AreBytes xs → AreBytes ys → ((k : ℕ) → k < 32 → get_or xs k 0 ≡ get_or ys k 0) → Equal ≡ nat_cmp (number_of xs) (number_of ys)
by_none_apart xs ys left right same =
    never_apart xs ys (left.long ∙ sym right.long) (λ k le. same k (omega (arith, left.long, le))) ∙ same_order xs ys left right
