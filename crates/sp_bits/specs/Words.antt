-- Eight words of 64 bits, and the set that they stand for. Place p is bit p % 64, counted from the lowest, of word p / 64.
use Rattle.std.specs.Prelude.{ℕ, ◌≡◌, ◌+◌, ◌-◌, ◌*◌, ◌/◌, ◌%◌, ◌^◌, ◌<◌, ◌≤◌, ◌==◌, ◌&&◌, Bool, true, false, List, filter, length, map, slice_index_or}
use Rattle.std.specs.List.{range_with_len}
use Rattle.std.specs.Int.{bit_at}
use Rattle.std.proofs.Common.{zero, suc, cond, get_or, refl, sym, ap, ◌∙◌, arith, inl, inr}
use Rattle.std.proofs.lemmas.Bool.{cases_lt}
use Rattle.std.proofs.lemmas.Nat.Bits.{bit_at-lt, bit_at_cat_low, bit_at_cat_high, same_from_bits_below}
use Rattle.std.proofs.lemmas.List.{same_lists, get_or_default}
use Rattle.std.proofs.lemmas.List.FromFn.{length-map-range_with_len, get_or-map-range_with_len}
use native.Mathlib.Nat.{pow-suc}
use Rattle.sp_bits.specs.Places.{has, places_where}
use Rattle.sp_bits.specs.Members.{has-places_where}

-- whether the words have the place
abbrev pub bit_in : List ℕ → ℕ → Bool
bit_in words place = bit_at (slice_index_or words (place / 64) 0) (place % 64) == 1

-- how many places both have in two words, from this one on
unfoldable pub shared_in : List ℕ → List ℕ → ℕ → ℕ
shared_in one other word = length (filter (λ p. bit_in one p && bit_in other p) (range_with_len (64 * word) 128))

-- eight words
pub record AreWords (words : List ℕ) : Type 0 where
  pub long : length words ≡ 8
  pub small : (k : ℕ) → k < 8 → slice_index_or words k 0 < 2 ^ 64

-- the number of n bits that a test gives
unfoldable pub number : (ℕ → Bool) → ℕ → ℕ
number test zero = 0
number test (suc n) = cond (test n) 1 0 * 2 ^ n + number test n

-- the words of a set
abbrev pub words_of : List ℕ → List ℕ
words_of set = map (λ k. number (λ i. has set (64 * k + i)) 64) (range_with_len 0 8)

-- the last place of the first `end` where the words have one
pub record IsLast (words : List ℕ) (end place : ℕ) : Type 0 where
  pub below : place < end
  pub here : bit_in words place ≡ true
  pub behind : (p : ℕ) → place < p → p < end → bit_in words p ≡ false

-- the highest bit of the word of this number in a row, as a place
pub record IsTop (word number place : ℕ) : Type 0 where
  pub low : 64 * number ≤ place
  pub high : place < 64 * number + 64
  pub here : bit_at word (place - 64 * number) ≡ 1
  pub above : (i : ℕ) → place - 64 * number < i → i < 64 → bit_at word i ≡ 0

-- a number that is made of bits has these bits
pub number-lt : (test : ℕ → Bool) (n : ℕ) → number test n < 2 ^ n
unfolding number
number-lt test zero = omega arith
number-lt test (suc n) = by (test n) (number-lt test n)
  where
    by : (c : Bool) → number test n < 2 ^ n → cond c 1 0 * 2 ^ n + number test n < 2 ^ suc n
    by true h = omega (arith, pow-suc 2 n)
    by false h = omega (arith, pow-suc 2 n)

pub bit_at-number : (test : ℕ → Bool) (n i : ℕ) → i < n → bit_at (number test n) i ≡ cond (test i) 1 0
unfolding number
bit_at-number test zero i le = absurd (omega arith)
bit_at-number test (suc n) i le =
    elim (cases_lt i n) [
      | inl less ↦ bit_at_cat_low (cond (test n) 1 0) n (number test n) i less ∙ bit_at-number test n i less
      | inr more ↦
          (let same : i ≡ n = omega arith in
          bit_at_cat_high (cond (test n) 1 0) n (number test n) i (number-lt test n) more
          ∙ (let none : i - n ≡ 0 = omega arith in ap (bit_at (cond (test n) 1 0)) none) ∙ lowest (test n)
          ∙ ap (λ (k : ℕ). cond (test k) 1 0) (sym same))
    ]
  where
    lowest : (c : Bool) → bit_at (cond c 1 0) 0 ≡ cond c 1 0
    lowest true = refl
    lowest false = refl

pub bit-cond : (w i : ℕ) → cond (bit_at w i == 1) 1 0 ≡ bit_at w i
bit-cond w i = by (bit_at w i) (bit_at-lt w i)
  where
    by : (d : ℕ) → d < 2 → cond (d == 1) 1 0 ≡ d
    by zero h = refl
    by (suc zero) h = refl
    by (suc (suc d)) h = absurd (omega arith)

-- a bit of a word, by its place in the row
pub bit_in-word : (words : List ℕ) (k i : ℕ) → i < 64 → bit_in words (64 * k + i) ≡ (bit_at (slice_index_or words k 0) i == 1)
bit_in-word words k i le =
    let word : (64 * k + i) / 64 ≡ k = omega arith in
    let bit : (64 * k + i) % 64 ≡ i = omega arith in
    ap (λ (w : ℕ). bit_at (slice_index_or words w 0) ((64 * k + i) % 64) == 1) word ∙ ap (λ (j : ℕ). bit_at (slice_index_or words k 0) j == 1) bit

-- the words of the places of some words are these
pub words_of_places : (words : List ℕ) → AreWords words → words_of (places_where (bit_in words)) ≡ words
words_of_places words are =
    same_lists (words_of set) words (length-map-range_with_len word 0 8 ∙ sym are.long) each
  where
    set : List ℕ
    set = places_where (bit_in words)

    word : ℕ → ℕ
    word k = number (λ i. has set (64 * k + i)) 64

    same : (k : ℕ) → k < 8 → word k ≡ slice_index_or words k 0
    same k le =
        same_from_bits_below 64 (word k) (slice_index_or words k 0) (number-lt (λ i. has set (64 * k + i)) 64) (are.small k le)
        (λ i small. bit_at-number (λ i. has set (64 * k + i)) 64 i small
        ∙ (let inside : 64 * k + i < 512 = omega arith in ap (λ (c : Bool). cond c 1 0) (has-places_where (bit_in words) (64 * k + i) inside))
        ∙ ap (λ (c : Bool). cond c 1 0) (bit_in-word words k i small) ∙ bit-cond (slice_index_or words k 0) i)

    each : (k : ℕ) (d : ℕ) → k < length (words_of set) → get_or (words_of set) k d ≡ get_or words k d
    each k d le =
        let small : k < 8 = omega (arith, length-map-range_with_len word 0 8) in
        let inside : k < length words = omega (arith, are.long) in
        get_or-map-range_with_len word 0 8 k k d small (omega arith) ∙ same k small ∙ get_or_default words k 0 d inside
