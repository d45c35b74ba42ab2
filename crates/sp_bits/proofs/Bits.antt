-- The words of a row: what an operation on words does to each place.
use Rattle.std.proofs.Common.{◌≡◌, ◌≢◌, ℕ, zero, suc, ◌+◌, ◌-◌, ◌*◌, ◌/◌, ◌%◌, ◌^◌, ◌<◌, ◌≤◌, min, max, Bool, true, false, cond, ◌||◌, ◌&&◌, not, List, ◌∷◌, ◌++◌, length, set, get_or, refl, sym, ap, ◌∙◌, ◌⊎◌, inl, inr, eqb, Option, Some, None, arith, get_or-set_same, get_or-set_other, length-append, w64, add-one}
use Rattle.std.specs.Prelude.{filter, nat_lt, ◌==◌, ◌↔◌, IfSome, IfNone}
use Rattle.std.specs.List.{range_with_len}
use Rattle.std.specs.Int.{bit_at, bit_not, trailing_zeros}
use Rattle.std.specs.Int.RustNames.{bit_or, bit_and, bit_xor, count_ones}
use Rattle.std.proofs.lemmas.Bool.{cases_lt, eqb-true, eq-eqb, false≢true, false_from_ne_true, and_parts, ltb-true, lt-ltb}
use Rattle.std.proofs.lemmas.Nat.{one_shl, pow_pos, le-div, shr_below, and_le_l, and_le_r, ones-le, leading_top}
use Rattle.std.proofs.lemmas.Nat.Bits.{bit_at-lt, bit_at-zero, bit_at-suc, bit_at_lowest, bit_at_and, bit_at_or, bit_at_not, bit_at_ones, bit_at_ones_above, bit_at-trailing_zeros, bit_at_above}
use Rattle.std.proofs.lemmas.List.{length-set, same_lists, get_or_default, get_or_past}
use Rattle.std.proofs.lemmas.List.Elements.{filter-append}
use Rattle.std.specs.Int.Bits.{and_lt, or_zero_l, xor_self}
use lib.Bits.{or_add_and, xor_add_and}
use lib.Count.{ones_step, count_leading_zeros}
use native.Mathlib.Nat.{pow-suc}
use Rattle.sp_bits.specs.Words.{bit_in, bit_in-word, shared_in, AreWords, IsLast, IsTop}
use Rattle.sp_bits.proofs.Counts.{IsCount}

-- ---- one bit

pub or-bit : (a b i : ℕ) → (bit_at (bit_or a b) i == 1) ≡ ((bit_at a i == 1) || (bit_at b i == 1))
or-bit a b i = ap (λ (d : ℕ). d == 1) (bit_at_or a b i) ∙ by (bit_at a i) (bit_at b i) (bit_at-lt a i) (bit_at-lt b i)
  where
    by : (d e : ℕ) → d < 2 → e < 2 → (max d e == 1) ≡ ((d == 1) || (e == 1))
    by zero zero h g = refl
    by zero (suc zero) h g = refl
    by (suc zero) zero h g = refl
    by (suc zero) (suc zero) h g = refl
    by (suc (suc d)) e h g = absurd (omega arith)
    by zero (suc (suc e)) h g = absurd (omega arith)
    by (suc zero) (suc (suc e)) h g = absurd (omega arith)

and-min : (d e : ℕ) → d < 2 → e < 2 → (min d e == 1) ≡ ((d == 1) && (e == 1))
and-min zero zero h g = refl
and-min zero (suc zero) h g = refl
and-min (suc zero) zero h g = refl
and-min (suc zero) (suc zero) h g = refl
and-min (suc (suc d)) e h g = absurd (omega arith)
and-min zero (suc (suc e)) h g = absurd (omega arith)
and-min (suc zero) (suc (suc e)) h g = absurd (omega arith)

pub and-bit : (a b i : ℕ) → (bit_at (bit_and a b) i == 1) ≡ ((bit_at a i == 1) && (bit_at b i == 1))
and-bit a b i = ap (λ (d : ℕ). d == 1) (bit_at_and a b i) ∙ and-min (bit_at a i) (bit_at b i) (bit_at-lt a i) (bit_at-lt b i)

pub not-bit : (b i : ℕ) → b < 2 ^ 64 → i < 64 → (bit_at (bit_not w64 b) i == 1) ≡ not (bit_at b i == 1)
not-bit b i fits le = ap (λ (d : ℕ). d == 1) (bit_at_not w64 b i fits le) ∙ by (bit_at b i) (bit_at-lt b i)
  where
    by : (d : ℕ) → d < 2 → (1 - d == 1) ≡ not (d == 1)
    by zero h = refl
    by (suc zero) h = refl
    by (suc (suc d)) h = absurd (omega arith)

pub without-bit : (a b i : ℕ) → b < 2 ^ 64 → i < 64 → (bit_at (bit_and a (bit_not w64 b)) i == 1) ≡ ((bit_at a i == 1) && not (bit_at b i == 1))
without-bit a b i fits le = and-bit a (bit_not w64 b) i ∙ ap (λ (c : Bool). (bit_at a i == 1) && c) (not-bit b i fits le)

-- two words have a bit that only one has, unless they are the same
pub xor_none : (a b : ℕ) → bit_xor a b ≡ 0 → a ≡ b
xor_none a b none = omega (arith, xor_add_and a b, and_le_l a b, and_le_r a b, none)

pub no-bits : (a b : ℕ) → bit_or a b ≡ 0 → (a ≡ 0) × (b ≡ 0)
no-bits a b none = (omega (arith, or_add_and a b, and_le_l a b, and_le_r a b, none), omega (arith, or_add_and a b, and_le_l a b, and_le_r a b, none))

-- ---- eight words

-- whether the words before `end` are the same, by the bits that only one of two has
abbrev pub IsSame : List ℕ → List ℕ → ℕ → ℕ → Type 0
IsSame one other end different = (different ≡ 0) ↔ ((k : ℕ) → k < end → get_or one k 0 ≡ get_or other k 0)

pub IsSame-more : (one other : List ℕ) (end different : ℕ) → IsSame one other end different
    → IsSame one other (end + 1) (bit_or different (bit_xor (get_or one end 0) (get_or other end 0)))
IsSame-more one other end different is = (
  λ none k less. (let parts = no-bits different (bit_xor (get_or one end 0) (get_or other end 0)) none in
      by k less (cases_lt k end) (is.0 parts.0) (xor_none (get_or one end 0) (get_or other end 0) parts.1)),
  λ same. ap (λ (d : ℕ). bit_or d (bit_xor (get_or one end 0) (get_or other end 0))) (is.1 (λ k less. same k (omega arith)))
      ∙ ap (λ (w : ℕ). bit_or 0 (bit_xor w (get_or other end 0))) (same end (omega arith)) ∙ or_zero_l (bit_xor (get_or other end 0) (get_or other end 0)) ∙ xor_self (get_or other end 0),
)
  where
    by : (k : ℕ) → k < end + 1 → (k < end) ⊎ (end ≤ k) → ((k : ℕ) → k < end → get_or one k 0 ≡ get_or other k 0) → get_or one end 0 ≡ get_or other end 0
        → get_or one k 0 ≡ get_or other k 0
    by k less (inl before) all last = all k before
    by k less (inr more) all last = (let at : k ≡ end = omega arith in rw at last)

-- at the end the lists are
pub IsSame-all : (one other : List ℕ) (end different : ℕ) → length one ≡ 8 → length other ≡ 8 → end ≡ 8 → IsSame one other end different
    → (different ≡ 0) ↔ (one ≡ other)
IsSame-all one other end different long long' whole is = (
  λ none. same_lists one other (long ∙ sym long')
      (λ k d le. (let small : k < end = omega (arith, long, whole) in let inside : k < length other = omega (arith, long, long') in
      get_or_default one k d 0 le ∙ is.0 none k small ∙ get_or_default other k 0 d inside)),
  λ e. is.1 (λ k _. ap (λ (l : List ℕ). get_or l k 0) e),
)

pub AreWords-set : (words : List ℕ) (k w : ℕ) → AreWords words → w < 2 ^ 64 → AreWords (set words k w)
AreWords-set words k w are fits = record {
  long = length-set words k w ∙ are.long;
  small = λ j le. elim (cases_lt j k) [
    | inl less ↦ rw (get_or-set_other words k j w 0 (λ (e : j ≡ k). omega arith)) (are.small j le)
    | inr more ↦ by j le (cases_lt k j) more
  ];
}
  where
    by : (j : ℕ) → j < 8 → (k < j) ⊎ (j ≤ k) → k ≤ j → get_or (set words k w) j 0 < 2 ^ 64
    by j le (inl less) more = rw (get_or-set_other words k j w 0 (λ (e : j ≡ k). omega arith)) (are.small j le)
    by j le (inr less) more =
        (let same : j ≡ k = omega arith in let inside : k < length words = omega (arith, are.long) in
        rw (ap (λ (i : ℕ). get_or (set words k w) i 0) same ∙ get_or-set_same words k w 0 inside) fits)

-- the words before `end` are made from two, and the others are as they were
pub record AreMade (f : ℕ → ℕ → ℕ) (one other now : List ℕ) (end : ℕ) : Type 0 where
  pub made : (k : ℕ) → k < end → get_or now k 0 ≡ f (get_or one k 0) (get_or other k 0)
  pub left : (k : ℕ) → end ≤ k → get_or now k 0 ≡ get_or one k 0
  pub words : AreWords now

pub AreMade-more : (f : ℕ → ℕ → ℕ) (one other now : List ℕ) (end w : ℕ) → end < 8 → w < 2 ^ 64 → w ≡ f (get_or now end 0) (get_or other end 0)
    → AreMade f one other now end → AreMade f one other (set now end w) (end + 1)
AreMade-more f one other now end w le fits is are = record {
  made = λ k less. by k less (cases_lt k end);
  left = λ k more. get_or-set_other now end k w 0 (λ (e : k ≡ end). omega arith) ∙ are.left k (omega arith);
  words = AreWords-set now end w are.words fits;
}
  where
    by : (k : ℕ) → k < end + 1 → (k < end) ⊎ (end ≤ k) → get_or (set now end w) k 0 ≡ f (get_or one k 0) (get_or other k 0)
    by k less (inl before) = get_or-set_other now end k w 0 (λ (e : k ≡ end). omega arith) ∙ are.made k before
    by k less (inr more) =
        (let same : k ≡ end = omega arith in let inside : end < length now = omega (arith, are.words.long) in
        rw same (get_or-set_same now end w 0 inside ∙ is ∙ ap (λ (v : ℕ). f v (get_or other end 0)) (are.left end (omega arith))))

-- each place of the made words
pub made-places : (f : ℕ → ℕ → ℕ) (g : Bool → Bool → Bool) (one other now : List ℕ) (end : ℕ)
    → ((k i : ℕ) → k < 8 → i < 64 → (bit_at (f (get_or one k 0) (get_or other k 0)) i == 1) ≡ g (bit_at (get_or one k 0) i == 1) (bit_at (get_or other k 0) i == 1))
    → end ≡ 8 → AreMade f one other now end → (p : ℕ) → p < 512 → bit_in now p ≡ g (bit_in one p) (bit_in other p)
made-places f g one other now end law whole are p le =
    ap (λ (w : ℕ). bit_at w (p % 64) == 1) (are.made (p / 64) (omega arith)) ∙ law (p / 64) (p % 64) (omega arith) (omega arith)

-- ---- one place

-- where a word differs at one bit alone, so does the row
pub other-place : (words : List ℕ) (place w : ℕ) → ((i : ℕ) → i < 64 → i ≢ place % 64 → bit_at w i ≡ bit_at (get_or words (place / 64) 0) i)
    → length words ≡ 8 → place < 512 → (k : ℕ) → k < 512 → k ≢ place → bit_in (set words (place / 64) w) k ≡ bit_in words k
other-place words place w same long within k le other = by (eqb (k / 64) (place / 64)) refl
  where
    by : (c : Bool) → eqb (k / 64) (place / 64) ≡ c → bit_in (set words (place / 64) w) k ≡ bit_in words k
    by true e =
        (let word : k / 64 ≡ place / 64 = eqb-true (k / 64) (place / 64) e in
        let bit : k % 64 ≢ place % 64 = λ (i : k % 64 ≡ place % 64). other (omega arith) in
        let inside : place / 64 < length words = omega (arith, long) in
        ap (λ (j : ℕ). bit_at (get_or (set words (place / 64) w) j 0) (k % 64) == 1) word
        ∙ ap (λ (v : ℕ). bit_at v (k % 64) == 1) (get_or-set_same words (place / 64) w 0 inside)
        ∙ ap (λ (d : ℕ). d == 1) (same (k % 64) (omega arith) bit)
        ∙ ap (λ (j : ℕ). bit_at (get_or words j 0) (k % 64) == 1) (sym word))
    by false e =
        ap (λ (v : ℕ). bit_at v (k % 64) == 1) (get_or-set_other words (place / 64) (k / 64) w 0 (λ (i : k / 64 ≡ place / 64). false≢true (sym e ∙ eq-eqb (k / 64) (place / 64) i)))

pub this-place : (words : List ℕ) (place w d : ℕ) → bit_at w (place % 64) ≡ d → length words ≡ 8 → place < 512
    → bit_in (set words (place / 64) w) place ≡ (d == 1)
this-place words place w d is long within =
    (let inside : place / 64 < length words = omega (arith, long) in
    ap (λ (v : ℕ). bit_at v (place % 64) == 1) (get_or-set_same words (place / 64) w 0 inside) ∙ ap (λ (e : ℕ). e == 1) is)

-- ---- ones

-- the places of one word are as many as its ones
word-count : (n w a : ℕ) (test : ℕ → Bool) → w < 2 ^ n → ((i : ℕ) → i < n → test (a + i) ≡ (bit_at w i == 1))
    → length (filter test (range_with_len a n)) ≡ count_ones w
word-count zero w a test fits same = omega (arith, ones-le 0 w fits)
word-count (suc n) w a test fits same =
    let half : w / 2 < 2 ^ n = omega (arith, pow-suc 2 n) in
    let here : test a ≡ (w % 2 == 1) = (let at : a + 0 ≡ a = omega arith in ap test (sym at)) ∙ same 0 (omega arith) ∙ ap (λ (d : ℕ). d == 1) (bit_at_lowest w) in
    let rest : length (filter test (range_with_len (a + 1) n)) ≡ count_ones (w / 2) =
    word-count n (w / 2) (a + 1) test half (λ i less. (let at : a + 1 + i ≡ a + suc i = omega arith in ap test at) ∙ same (suc i) (omega arith) ∙ ap (λ (d : ℕ). d == 1) (bit_at-suc w i)) in
    ap (λ (c : Bool). length (cond c (a ∷ filter test (range_with_len (a + 1) n)) (filter test (range_with_len (a + 1) n)))) here
    ∙ by (w % 2) (omega arith) rest ∙ sym (ones_step w)
  where
    by : (d : ℕ) → d < 2 → length (filter test (range_with_len (a + 1) n)) ≡ count_ones (w / 2)
        → length (cond (d == 1) (a ∷ filter test (range_with_len (a + 1) n)) (filter test (range_with_len (a + 1) n))) ≡ d + count_ones (w / 2)
    by zero h rest = omega (arith, rest)
    by (suc zero) h rest = omega (arith, rest)
    by (suc (suc d)) h rest = absurd (omega arith)

range-append : (a m n : ℕ) → range_with_len a (m + n) ≡ range_with_len a m ++ range_with_len (a + m) n
range-append a zero n = (let none : 0 + n ≡ n = omega arith in let at : a ≡ a + 0 = omega arith in ap (range_with_len a) none ∙ ap (λ (b : ℕ). range_with_len b n) at)
range-append a (suc m) n =
    (let more : suc m + n ≡ suc (m + n) = omega arith in let at : a + 1 + m ≡ a + suc m = omega arith in
    ap (range_with_len a) more ∙ ap (λ (l : List ℕ). a ∷ l) (range-append (a + 1) m n ∙ ap (λ (b : ℕ). range_with_len (a + 1) m ++ range_with_len b n) at))

-- a word more is counted by its ones
pub count-word : (test : ℕ → Bool) (k w count next : ℕ) → w < 2 ^ 64 → ((i : ℕ) → i < 64 → test (64 * k + i) ≡ (bit_at w i == 1))
    → next ≡ count + count_ones w → IsCount test (64 * k) count → IsCount test (64 * (k + 1)) next
count-word test k w count next fits same is so_far =
    let word : length (filter test (range_with_len (64 * k) 64)) ≡ count_ones w = word-count 64 w (64 * k) test fits same in
    let few : count_ones w ≤ 64 = ones-le 64 w fits in
    let end : 64 * (k + 1) ≡ 64 * k + 64 = omega arith in
    let at : 0 + 64 * k ≡ 64 * k = omega arith in
    let all : length (filter test (range_with_len 0 (64 * (k + 1)))) ≡ length (filter test (range_with_len 0 (64 * k))) + count_ones w =
    ap (λ (n : ℕ). length (filter test (range_with_len 0 n))) end
    ∙ ap (λ (l : List ℕ). length (filter test l)) (range-append 0 (64 * k) 64 ∙ ap (λ (b : ℕ). range_with_len 0 (64 * k) ++ range_with_len b 64) at)
    ∙ ap length (filter-append test (range_with_len 0 (64 * k)) (range_with_len (64 * k) 64))
    ∙ length-append (filter test (range_with_len 0 (64 * k))) (filter test (range_with_len (64 * k) 64))
    ∙ ap (λ (n : ℕ). length (filter test (range_with_len 0 (64 * k))) + n) word in
    (omega (arith, all, so_far.0, is), omega (arith, so_far.1, is, few))

-- the places that two words have are the bits of both
pub both-places : (one other : List ℕ) (k i : ℕ) → i < 64
    → (bit_in one (64 * k + i) && bit_in other (64 * k + i)) ≡ (bit_at (bit_and (get_or one k 0) (get_or other k 0)) i == 1)
both-places one other k i le =
    ap (λ (c : Bool). c && bit_in other (64 * k + i)) (bit_in-word one k i le)
    ∙ ap (λ (c : Bool). (bit_at (get_or one k 0) i == 1) && c) (bit_in-word other k i le) ∙ sym (and-bit (get_or one k 0) (get_or other k 0) i)

-- ---- a span of words

-- eight words have no place from 512 on
pub row-small : (words : List ℕ) (p : ℕ) → length words ≡ 8 → bit_in words p ≡ true → p < 512
row-small words p long here =
    elim (cases_lt p 512) [
      | inl less ↦ less
      | inr more ↦
          (let past : length words ≤ p / 64 = omega (arith, long) in
          absurd (false≢true (sym (ap (λ (w : ℕ). bit_at w (p % 64) == 1) (get_or_past words (p / 64) 0 past)
          ∙ ap (λ (d : ℕ). d == 1) (bit_at-zero (p % 64))) ∙ here)))
    ]

-- a span in which no place passes counts none
none_pass : (test : ℕ → Bool) (a n : ℕ) → ((k : ℕ) → a ≤ k → k < a + n → test k ≡ false) → 0 ≡ length (filter test (range_with_len a n))
none_pass test a zero fails = refl
none_pass test a (suc n) fails =
    none_pass test (a + 1) n (λ k more less. fails k (omega arith) (omega arith))
    ∙ sym (ap (λ (c : Bool). length (cond c (a ∷ filter test (range_with_len (a + 1) n)) (filter test (range_with_len (a + 1) n)))) (fails a (omega arith) (omega arith)))

-- two words in which the one has no place share none, so that a count stays
pub none-shared : (own other : List ℕ) (word count : ℕ) → ((p : ℕ) → bit_in own p ≡ true → 64 * word ≤ p → p < 64 * word + 128 → ⊥) → count ≡ count + shared_in own other word
unfolding shared_in
none-shared own other word count none =
    let zero : 0 ≡ length (filter (λ p. bit_in own p && bit_in other p) (range_with_len (64 * word) 128)) =
    none_pass (λ p. bit_in own p && bit_in other p) (64 * word) 128
    (λ k low high. ap (λ (c : Bool). c && bit_in other k) (false_from_ne_true (bit_in own k) (λ here. none k here low high))) in
    omega (arith, zero)

-- two words have the ones of both
pub words-shared : (own other : List ℕ) (k : ℕ) → get_or own k 0 < 2 ^ 64 → get_or other k 0 < 2 ^ 64 → get_or own (k + 1) 0 < 2 ^ 64 → get_or other (k + 1) 0 < 2 ^ 64
    → count_ones (bit_and (get_or own k 0) (get_or other k 0)) + count_ones (bit_and (get_or own (k + 1) 0) (get_or other (k + 1) 0)) ≡ shared_in own other k
unfolding shared_in
words-shared own other k one two three four =
    let test : ℕ → Bool = λ p. bit_in own p && bit_in other p in
    let first : length (filter test (range_with_len (64 * k) 64)) ≡ count_ones (bit_and (get_or own k 0) (get_or other k 0)) =
    word-count 64 (bit_and (get_or own k 0) (get_or other k 0)) (64 * k) test (and_lt 64 (get_or own k 0) (get_or other k 0) one two) (both-places own other k) in
    let behind : length (filter test (range_with_len (64 * (k + 1)) 64)) ≡ count_ones (bit_and (get_or own (k + 1) 0) (get_or other (k + 1) 0)) =
    word-count 64 (bit_and (get_or own (k + 1) 0) (get_or other (k + 1) 0)) (64 * (k + 1)) test (and_lt 64 (get_or own (k + 1) 0) (get_or other (k + 1) 0) three four) (both-places own other (k + 1)) in
    let at : 64 * k + 64 ≡ 64 * (k + 1) = omega arith in
    let all : length (filter test (range_with_len (64 * k) 128)) ≡ length (filter test (range_with_len (64 * k) 64)) + length (filter test (range_with_len (64 * (k + 1)) 64)) =
    ap (λ (l : List ℕ). length (filter test l)) (range-append (64 * k) 64 64 ∙ ap (λ (b : ℕ). range_with_len (64 * k) 64 ++ range_with_len b 64) at)
    ∙ ap length (filter-append test (range_with_len (64 * k) 64) (range_with_len (64 * (k + 1)) 64))
    ∙ length-append (filter test (range_with_len (64 * k) 64)) (filter test (range_with_len (64 * (k + 1)) 64)) in
    omega (arith, first, behind, all)

-- the places that are shared in two words come to those before them
pub shared-more : (own other : List ℕ) (part count next : ℕ) → IsCount (λ p. bit_in own p && bit_in other p) (128 * part) count
    → next ≡ count + shared_in own other (2 * part) → next ≤ count + 128 → IsCount (λ p. bit_in own p && bit_in other p) (128 * (part + 1)) next
unfolding shared_in
shared-more own other part count next so_far sum few =
    let test : ℕ → Bool = λ p. bit_in own p && bit_in other p in
    let start : 0 + 128 * part ≡ 64 * (2 * part) = omega arith in
    let end : 128 * (part + 1) ≡ 128 * part + 128 = omega arith in
    let all : length (filter test (range_with_len 0 (128 * (part + 1)))) ≡ length (filter test (range_with_len 0 (128 * part))) + length (filter test (range_with_len (64 * (2 * part)) 128)) =
    ap (λ (n : ℕ). length (filter test (range_with_len 0 n))) end
    ∙ ap (λ (l : List ℕ). length (filter test l)) (range-append 0 (128 * part) 128 ∙ ap (λ (b : ℕ). range_with_len 0 (128 * part) ++ range_with_len b 128) start)
    ∙ ap length (filter-append test (range_with_len 0 (128 * part)) (range_with_len (64 * (2 * part)) 128))
    ∙ length-append (filter test (range_with_len 0 (128 * part))) (filter test (range_with_len (64 * (2 * part)) 128)) in
    (omega (arith, all, so_far.0, sum), omega (arith, so_far.1, few))

-- ---- one set within another

-- the place where a word has a bit that the other lacks
pub lacking : (words others : List ℕ) (k : ℕ) → k < 8 → 0 < bit_and (get_or words k 0) (bit_not w64 (get_or others k 0)) → get_or words k 0 < 2 ^ 64 → get_or others k 0 < 2 ^ 64
    → (p : ℕ) × (p < 512) × (bit_in words p ≡ true) × (bit_in others p ≡ false)
lacking words others k le some fits fit =
    let w = get_or words k 0 in let v = get_or others k 0 in
    let small : bit_and w (bit_not w64 v) < 2 ^ 64 = omega (arith, and_le_l w (bit_not w64 v)) in
    let found = bit_at-trailing_zeros w64 (bit_and w (bit_not w64 v)) some small in
    let i = trailing_zeros w64 (bit_and w (bit_not w64 v)) in
    let parts = and_parts (bit_at w i == 1) (not (bit_at v i == 1)) (sym (without-bit w v i fit found.0) ∙ ap (λ (d : ℕ). d == 1) found.1) in
    let inside : i < 64 = found.0 in
    (64 * k + i, omega arith, bit_in-word words k i inside ∙ parts.0, bit_in-word others k i inside ∙ flip (bit_at v i == 1) parts.1)
  where
    flip : (c : Bool) → not c ≡ true → c ≡ false
    flip true h = sym h
    flip false h = refl

-- where a word lacks none, the places up to its end are among the other's
pub lacking-none : (words others : List ℕ) (k : ℕ) → bit_and (get_or words k 0) (bit_not w64 (get_or others k 0)) ≡ 0 → get_or others k 0 < 2 ^ 64
    → ((p : ℕ) → p < 64 * k → bit_in words p ≡ true → bit_in others p ≡ true) → (p : ℕ) → p < 64 * (k + 1) → bit_in words p ≡ true → bit_in others p ≡ true
lacking-none words others k none fit before p le here =
    elim (cases_lt p (64 * k)) [
      | inl less ↦ before p less here
      | inr more ↦
          (let small : p - 64 * k < 64 = omega arith in let at : p ≡ 64 * k + (p - 64 * k) = omega arith in
          ap (bit_in others) at ∙ bit_in-word others k (p - 64 * k) small
          ∙ both (bit_at (get_or words k 0) (p - 64 * k) == 1) (bit_at (get_or others k 0) (p - 64 * k) == 1)
          (sym (bit_in-word words k (p - 64 * k) small) ∙ ap (bit_in words) (sym at) ∙ here)
          (sym (without-bit (get_or words k 0) (get_or others k 0) (p - 64 * k) fit small) ∙ ap (λ (w : ℕ). bit_at w (p - 64 * k) == 1) none ∙ ap (λ (d : ℕ). d == 1) (bit_at-zero (p - 64 * k))))
    ]
  where
    both : (c d : Bool) → c ≡ true → (c && not d) ≡ false → d ≡ true
    both c true h e = refl
    both true false h e = sym e
    both false false h e = h

-- ---- the last place

-- the place j of the highest bit
pub top-place : (w number j : ℕ) → 2 ^ j ≤ w → w < 2 ^ (j + 1) → j < 64 → IsTop w number (64 * number + j)
top-place w number j low high small = record {
  low = omega arith;
  high = omega arith;
  here = ap (bit_at w) (at j) ∙ one (w / 2 ^ j) quotient;
  above = λ i more less. bit_at_above w (j + 1) i high (omega (arith, at j));
}
  where
    at : (i : ℕ) → 64 * number + i - 64 * number ≡ i
    at i = omega arith

    quotient : w / 2 ^ j ≡ 1
    quotient =
        (let least : 1 ≤ w / 2 ^ j = le-div 1 w (2 ^ j) (pow_pos j) (omega arith) in
        let exponent : j + 1 ≡ 1 + j = omega arith in
        let most : w / 2 ^ j < 2 ^ 1 = shr_below w 1 j (rw (ap (λ (i : ℕ). 2 ^ i) (sym exponent)) high) in
        omega arith)

    one : (d : ℕ) → d ≡ 1 → d % 2 ≡ 1
    one d e = rw e refl

-- so it is what the zeros above it leave
pub top-of : (w number : ℕ) → 0 < w → w < 2 ^ 64 → IsTop w number (64 * number + 63 - count_leading_zeros 64 w)
top-of w number some fits =
    let top = leading_top 64 w some fits in
    let high : w < 2 ^ (top.0 + 1) = rw (ap (λ (i : ℕ). 2 ^ i) (add-one top.0)) top.3 in
    let place : 64 * number + 63 - count_leading_zeros 64 w ≡ 64 * number + top.0 = omega (arith, top.1) in
    rw place (top-place w number top.0 top.2 high (omega (arith, top.1)))

-- the low k bits of a word
low-bit : (w k i : ℕ) → i < k → bit_at (bit_and w (2 ^ k - 1)) i ≡ bit_at w i
low-bit w k i le = omega (arith, bit_at_and w (2 ^ k - 1) i, bit_at_ones k i le, bit_at-lt w i)

no-low-bit : (w k i : ℕ) → k ≤ i → bit_at (bit_and w (2 ^ k - 1)) i ≡ 0
no-low-bit w k i le = omega (arith, bit_at_and w (2 ^ k - 1) i, bit_at_ones_above k i le)

abbrev pub front_of : List ℕ → ℕ → ℕ
front_of words place = bit_and (get_or words (place / 64) 0) (1 * 2 ^ (place % 64) % 2 ^ 64 - 1)

front_is : (words : List ℕ) (place : ℕ) → front_of words place ≡ bit_and (get_or words (place / 64) 0) (2 ^ (place % 64) - 1)
front_is words place = ap (λ (m : ℕ). bit_and (get_or words (place / 64) 0) (m - 1)) (one_shl (place % 64) 64 (omega arith))

-- the bits of the front of a word are the row's places there
front-place : (words : List ℕ) (place p : ℕ) → 64 * (place / 64) ≤ p → p < place → bit_in words p ≡ (bit_at (front_of words place) (p - 64 * (place / 64)) == 1)
front-place words place p low less =
    (let same : p ≡ 64 * (place / 64) + (p - 64 * (place / 64)) = omega arith in
    let small : p - 64 * (place / 64) < 64 = omega arith in
    let inside : p - 64 * (place / 64) < place % 64 = omega arith in
    ap (bit_in words) same ∙ bit_in-word words (place / 64) (p - 64 * (place / 64)) small
    ∙ ap (λ (d : ℕ). d == 1) (sym (ap (λ (w : ℕ). bit_at w (p - 64 * (place / 64))) (front_is words place) ∙ low-bit (get_or words (place / 64) 0) (place % 64) (p - 64 * (place / 64)) inside)))

-- the highest bit of the front of a word
pub IsLast-front : (words : List ℕ) (place found : ℕ) → IsTop (front_of words place) (place / 64) found → IsLast words place found
IsLast-front words place found top = record {
  below = less;
  here = front-place words place found top.low less ∙ ap (λ (d : ℕ). d == 1) top.here;
  behind = λ p more le.
      (let low : 64 * (place / 64) ≤ p = omega (arith, top.low) in
      let small : p - 64 * (place / 64) < 64 = omega arith in
      let after : found - 64 * (place / 64) < p - 64 * (place / 64) = omega (arith, top.low) in
      front-place words place p low le ∙ ap (λ (d : ℕ). d == 1) (top.above (p - 64 * (place / 64)) after small));
}
  where
    less : found < place
    less = elim (cases_lt (found - 64 * (place / 64)) (place % 64)) [
      | inl inside ↦ omega (arith, top.low)
      | inr outside ↦
          (let none : bit_at (front_of words place) (found - 64 * (place / 64)) ≡ 0 =
          ap (λ (w : ℕ). bit_at w (found - 64 * (place / 64))) (front_is words place) ∙ no-low-bit (get_or words (place / 64) 0) (place % 64) (found - 64 * (place / 64)) outside in
          absurd (omega (arith, none, top.here)))
    ]

-- where the front of a word is 0, the row has no place there
pub none-in-front : (words : List ℕ) (place : ℕ) → front_of words place ≡ 0 → (p : ℕ) → 64 * (place / 64) ≤ p → p < place → bit_in words p ≡ false
none-in-front words place none p low less =
    front-place words place p low less ∙ ap (λ (w : ℕ). bit_at w (p - 64 * (place / 64)) == 1) none ∙ ap (λ (d : ℕ). d == 1) (bit_at-zero (p - 64 * (place / 64)))

-- and the last place of the words before is the last
pub IsLast-before : (words : List ℕ) (place found : ℕ) → front_of words place ≡ 0 → IsLast words (64 * (place / 64)) found → IsLast words place found
IsLast-before words place found none last = record {
  below = omega (arith, last.below);
  here = last.here;
  behind = λ p more le. elim (cases_lt p (64 * (place / 64))) [
    | inl less ↦ last.behind p more less
    | inr low ↦ none-in-front words place none p low le
  ];
}

pub IsLast-before-some : (words : List ℕ) (place : ℕ) (found : Option ℕ) → front_of words place ≡ 0 → IfSome found (IsLast words (64 * (place / 64)))
    → IfSome found (IsLast words place)
IsLast-before-some words place None none last = last
IsLast-before-some words place (Some p) none last = IsLast-before words place p none last

pub none-before : (words : List ℕ) (place : ℕ) (found : Option ℕ) → front_of words place ≡ 0
    → IfNone found ((p : ℕ) → p < 64 * (place / 64) → bit_in words p ≡ false) → IfNone found ((p : ℕ) → p < place → bit_in words p ≡ false)
none-before words place (Some p) none rest = rest
none-before words place None none rest = λ p le. elim (cases_lt p (64 * (place / 64))) [
  | inl less ↦ rest p less
  | inr low ↦ none-in-front words place none p low le
]

-- ---- the places from one on taken out

-- the words have the old places below `place`, and before `end`, which is behind it, no others
pub record IsCleared (old now : List ℕ) (place end : ℕ) : Type 0 where
  pub behind : place < 64 * end
  pub kept : (p : ℕ) → p < place → bit_in now p ≡ bit_in old p
  pub none : (p : ℕ) → place ≤ p → p < 64 * end → bit_in now p ≡ false
  pub words : AreWords now

other-word : (words : List ℕ) (k w p : ℕ) → p / 64 ≢ k → bit_in (set words k w) p ≡ bit_in words p
other-word words k w p apart = ap (λ (v : ℕ). bit_at v (p % 64) == 1) (get_or-set_other words k (p / 64) w 0 apart)

-- the front of the word of `place` alone
pub IsCleared-front : (words : List ℕ) (place : ℕ) → AreWords words → place < 512
    → IsCleared words (set words (place / 64) (front_of words place)) place (place / 64 + 1)
IsCleared-front words place are small = record {
  behind = omega arith;
  kept = λ p less. elim (cases_lt p (64 * (place / 64))) [
    | inl before ↦ other-word words (place / 64) (front_of words place) p (λ (e : p / 64 ≡ place / 64). omega arith)
    | inr low ↦ (let high : p < 64 * (place / 64 + 1) = omega arith in here p low high ∙ sym (front-place words place p low less))
  ];
  none = λ p more high.
      (let low : 64 * (place / 64) ≤ p = omega arith in
      let past : place % 64 ≤ p - 64 * (place / 64) = omega arith in
      here p low high
      ∙ ap (λ (d : ℕ). d == 1) (ap (λ (w : ℕ). bit_at w (p - 64 * (place / 64))) (front_is words place) ∙ no-low-bit (get_or words (place / 64) 0) (place % 64) (p - 64 * (place / 64)) past));
  words =
      (let fits = are.small (place / 64) (omega arith) in
      AreWords-set words (place / 64) (front_of words place) are (omega (arith, and_le_l (get_or words (place / 64) 0) (1 * 2 ^ (place % 64) % 2 ^ 64 - 1), fits)));
}
  where
    now : List ℕ
    now = set words (place / 64) (front_of words place)

    here : (p : ℕ) → 64 * (place / 64) ≤ p → p < 64 * (place / 64 + 1) → bit_in now p ≡ (bit_at (front_of words place) (p - 64 * (place / 64)) == 1)
    here p low high =
        (let at : p ≡ 64 * (place / 64) + (p - 64 * (place / 64)) = omega arith in
        let bit : p - 64 * (place / 64) < 64 = omega arith in
        let inside : place / 64 < length words = omega (arith, are.long) in
        ap (bit_in now) at ∙ bit_in-word now (place / 64) (p - 64 * (place / 64)) bit
        ∙ ap (λ (w : ℕ). bit_at w (p - 64 * (place / 64)) == 1) (get_or-set_same words (place / 64) (front_of words place) 0 inside))

-- what is cleared is so as it stands
pub IsCleared-now : (old now : List ℕ) (place end : ℕ) → IsCleared old now place end → IsCleared now now place end
IsCleared-now old now place end is = record { behind = is.behind; kept = λ p _. refl; none = is.none; words = is.words }

-- a word more
pub IsCleared-more : (old now : List ℕ) (place end : ℕ) → end < 8 → IsCleared old now place end → IsCleared old (set now end 0) place (end + 1)
IsCleared-more old now place end le is = record {
  behind = omega (arith, is.behind);
  kept = λ p less.
      (let below : p < 64 * end = omega (arith, is.behind) in
      other-word now end 0 p (λ (e : p / 64 ≡ end). omega arith) ∙ is.kept p less);
  none = λ p more high. elim (cases_lt p (64 * end)) [
    | inl before ↦ other-word now end 0 p (λ (e : p / 64 ≡ end). omega arith) ∙ is.none p more before
    | inr low ↦
        (let word : p / 64 ≡ end = omega arith in
        let inside : end < length now = omega (arith, is.words.long) in
        ap (λ (k : ℕ). bit_at (get_or (set now end 0) k 0) (p % 64) == 1) word
        ∙ ap (λ (w : ℕ). bit_at w (p % 64) == 1) (get_or-set_same now end 0 0 inside) ∙ ap (λ (d : ℕ). d == 1) (bit_at-zero (p % 64)))
  ];
  words = AreWords-set now end 0 is.words (omega arith);
}

-- at the end the old places below `place` are left
pub IsCleared-all : (old front now : List ℕ) (place begin end : ℕ) → IsCleared old front place begin → IsCleared front now place end → 8 ≤ end
    → (p : ℕ) → p < 512 → bit_in now p ≡ (bit_in old p && nat_lt p place)
IsCleared-all old front now place begin end first is whole p le =
    elim (cases_lt p place) [
      | inl less ↦ is.kept p less ∙ first.kept p less ∙ sym (ap (λ (d : Bool). bit_in old p && d) (lt-ltb p place less) ∙ with_true (bit_in old p))
      | inr more ↦
          (let inside : p < 64 * end = omega arith in
          let past : nat_lt p place ≡ false = false_from_ne_true (nat_lt p place) (λ h. (let less : p < place = ltb-true p place h in omega arith)) in
          is.none p more inside ∙ sym (ap (λ (d : Bool). bit_in old p && d) past ∙ with_false (bit_in old p)))
    ]
  where
    with_true : (c : Bool) → (c && true) ≡ c
    with_true true = refl
    with_true false = refl

    with_false : (c : Bool) → (c && false) ≡ false
    with_false true = refl
    with_false false = refl
