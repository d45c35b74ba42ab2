-- A binary search over keys that ascend finds one where it is among them.
use Rattle.std.proofs.Common.{◌≡◌, ℕ, zero, suc, ◌<◌, ◌||◌, Bool, true, false, List, [], ◌∷◌, length, get_or, Result, Ok, Err, refl, sym, ap, ◌∙◌, inl, inr, arith}
use Rattle.std.specs.Prelude.{is_ok}
use Rattle.std.specs.List.{list_any}
use Rattle.std.specs.List.Sorted.{IsBinarySearchResult, IsNonDecreasingBy, IsSearchInRange}
use Rattle.std.specs.Ordering.{is_eq, ordering_index}
use Rattle.std.specs.declared.cmp.Ordering.{Ordering}
use Rattle.std.specs.declared.cmp.Ordering.TheVariants.{Less, Equal, Greater}
use Rattle.std.proofs.lemmas.Bool.{cases_lt, or_left, or_right}

some_at : {X : Type 0} (p : X → Bool) (xs : List X) (k : ℕ) → k < length xs → ((d : X) → p (get_or xs k d) ≡ true) → list_any p xs ≡ true
some_at p [] k h passes = absurd (omega (arith, h))
some_at p (x ∷ xs) zero h passes = or_left (p x) (list_any p xs) (passes x)
some_at p (x ∷ xs) (suc k) h passes = or_right (p x) (list_any p xs) (some_at p xs k (omega (arith, h)) passes)

none_at : {X : Type 0} (p : X → Bool) (xs : List X) → ((k : ℕ) (d : X) → k < length xs → p (get_or xs k d) ≡ false) → list_any p xs ≡ false
none_at p [] fails = refl
none_at p (x ∷ xs) fails =
    ap (λ (b : Bool). b || list_any p xs) (fails 0 x (omega arith))
    ∙ none_at p xs (λ k d h. fails (suc k) d (omega (arith, h)))

is_equal : (r : Ordering) → r ≡ Equal → is_eq r ≡ true
is_equal r e = ap is_eq e

is_less : (r : Ordering) → r ≡ Less → is_eq r ≡ false
is_less r e = ap is_eq e

is_greater : (r : Ordering) → r ≡ Greater → is_eq r ≡ false
is_greater r e = ap is_eq e

pub found_is : {X : Type 0} (ord : X → Ordering) (xs : List X) (r : Result ℕ ℕ) → IsSearchInRange r (length xs) → IsBinarySearchResult ord xs r
    → IsNonDecreasingBy (λ y. ordering_index (ord y)) xs → is_ok r ≡ list_any (λ y. is_eq (ord y)) xs
found_is ord xs (Ok i) range is rises = sym (some_at (λ y. is_eq (ord y)) xs i range (λ d. is_equal _ (is d)))
found_is {X} ord xs (Err i) range is rises =
    let parts = is rises in
    sym (none_at (λ y. is_eq (ord y)) xs (λ k d h. elim (cases_lt k i) [
      | inl below ↦ is_less _ (parts.0 k d (omega arith) below)
      | inr above ↦ is_greater _ (parts.1 k d above h)
    ]))
