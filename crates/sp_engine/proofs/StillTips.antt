-- Tips that still are tips when more blocks have come, and the tips from a number on.
use Rattle.std.proofs.Common.{◌≡◌, ℕ, zero, suc, ◌+◌, ◌-◌, ◌<◌, ◌≤◌, Bool, true, false, cond, ◌&&◌, List, [], ◌∷◌, ◌++◌, length, take, refl, sym, ap, ◌∙◌, inl, inr, arith}
use Rattle.std.specs.Prelude.{filter, not}
use Rattle.std.specs.List.{list_any, range_with_len}
use Rattle.std.proofs.lemmas.Bool.{cases_lt, false≢true, false_from_ne_true, or_cases, or_left, or_right}
use Rattle.std.proofs.lemmas.List.Elements.{filter-append}
use Rattle.sp_bits.proofs.RowSets.{filter-filter}
use Rattle.sp_dag.specs.Numbered.{Numbered, AreInOrder}
use Rattle.sp_dag.proofs.NewPairs.{range_more}
use Rattle.sp_model.specs.Graph.{has}
use Rattle.sp_model.proofs.Rounds.{length-filter-le}
use Rattle.sp_model.proofs.Sets.{has-filter}
use Rattle.sp_engine.specs.Votes.{bar_row, is_tip, is_top_tip, tips_from}
use Rattle.sp_engine.proofs.Bars.{top_of_bar}
use Rattle.sp_engine.proofs.Ranges.{in_range, past_range}
use Rattle.sp_engine.proofs.TopTips.{any_place, top_is}

length-range : (a n : ℕ) → length (range_with_len a n) ≡ n
length-range a zero = refl
length-range a (suc n) = (let rest = length-range (a + 1) n in omega (arith, rest))

any_front : (f : List ℕ → Bool) (xs : List (List ℕ)) (n : ℕ) → list_any f (take n xs) ≡ true → list_any f xs ≡ true
any_front f xs zero h = absurd (false≢true h)
any_front f [] (suc n) h = absurd (false≢true h)
any_front f (x ∷ xs) (suc n) h =
    elim (or_cases (f x) (list_any f (take n xs)) h) [
      | inl here ↦ or_left (f x) (list_any f xs) here
      | inr there ↦ or_right (f x) (list_any f xs) (any_front f xs n there)
    ]

-- a tip was one before
tip_before : (table : Numbered) (n k : ℕ) → (is_tip (take n table.parents) k && is_tip table.parents k) ≡ is_tip table.parents k
tip_before table n k = by (list_any (λ ps. has ps k) (take n table.parents)) refl
  where
    by : (c : Bool) → list_any (λ ps. has ps k) (take n table.parents) ≡ c → (is_tip (take n table.parents) k && is_tip table.parents k) ≡ is_tip table.parents k
    by true e = ap (λ (c : Bool). not c && is_tip table.parents k) e ∙ ap not (sym (any_front (λ ps. has ps k) table.parents n e))
    by false e = ap (λ (c : Bool). not c && is_tip table.parents k) e

filter_test : (p q : ℕ → Bool) (xs : List ℕ) → ((k : ℕ) → p k ≡ q k) → filter p xs ≡ filter q xs
filter_test p q [] same = refl
filter_test p q (x ∷ xs) same = rw (same x, filter_test p q xs same) refl

range_two : (a n m k t : ℕ) → k ≡ a + n → t ≡ n + m → range_with_len a n ++ range_with_len k m ≡ range_with_len a t
range_two a zero m k t at sum =
    ap (λ (i : ℕ). range_with_len i m) (let e : k ≡ a = omega (arith, at) in e) ∙ ap (range_with_len a) (let e : m ≡ t = omega (arith, sum) in e)
range_two a (suc n) m k zero at sum = absurd (omega (arith, sum))
range_two a (suc n) m k (suc t) at sum = ap (λ (l : List ℕ). a ∷ l) (range_two (a + 1) n m k t (omega (arith, at)) (omega (arith, sum)))

take_long : (xs : List (List ℕ)) (n : ℕ) → n ≤ length xs → length (take n xs) ≡ n
take_long xs zero le = refl
take_long [] (suc n) le = absurd (omega (arith, le))
take_long (x ∷ xs) (suc n) le = (let rest = take_long xs n (omega (arith, le)) in omega (arith, rest))

pub below_range : (a n k : ℕ) → has (range_with_len a n) k ≡ true → k < a + n
below_range a n k h = elim (cases_lt k (a + n)) [
  | inl less ↦ less
  | inr more ↦ absurd (false≢true (sym (past_range a n k more) ∙ h))
]

-- of the tips that there were from a number on, those that are tips now are the tips below another one
tips_then : (table : Numbered) (n b : ℕ) → b ≤ length table.parents
    → filter (is_tip table.parents) (tips_from (take b table.parents) n) ≡ filter (is_tip table.parents) (range_with_len n (b - n))
tips_then table n b le =
    filter-filter (is_tip (take b table.parents)) (is_tip table.parents) (range_with_len n (length (take b table.parents) - n))
    ∙ filter_test (λ k. is_tip (take b table.parents) k && is_tip table.parents k) (is_tip table.parents) (range_with_len n (length (take b table.parents) - n)) (tip_before table b)
    ∙ ap (λ (k : ℕ). filter (is_tip table.parents) (range_with_len n (k - n))) (take_long table.parents b le)

-- the tips are tips
pub tips_twice : (table : List (List ℕ)) (n : ℕ) → filter (is_tip table) (tips_from table n) ≡ tips_from table n
tips_twice table n =
    filter-filter (is_tip table) (is_tip table) (range_with_len n (length table - n))
    ∙ filter_test (λ k. is_tip table k && is_tip table k) (is_tip table) (range_with_len n (length table - n)) (λ k. twice (is_tip table k))
  where
    twice : (c : Bool) → (c && c) ≡ c
    twice true = refl
    twice false = refl

-- there are no more of them than blocks
pub tips_few : (table : List (List ℕ)) (n b : ℕ) → b ≤ length table → length (tips_from (take b table) n) ≤ b - n
tips_few table n b le =
    omega (
      arith,
      length-filter-le (is_tip (take b table)) (range_with_len n (length (take b table) - n)),
      length-range n (length (take b table) - n),
      take_long table b le,
    )

-- each of them is below the number of blocks
pub tips_below : (table : List (List ℕ)) (n k : ℕ) → n ≤ length table → has (tips_from table n) k ≡ true → k < length table
tips_below table n k le there =
    (let less : k < n + (length table - n) = below_range n (length table - n) k (has-filter (is_tip table) (range_with_len n (length table - n)) k there).0 in omega (arith, less, le))

pub tips_within : (table : List (List ℕ)) (n b k : ℕ) → n ≤ b → b ≤ length table → has (tips_from (take b table) n) k ≡ true → k < length table
tips_within table n b k le most there =
    (let long : length (take b table) ≡ b = take_long table b most in
    let less : k < length (take b table) = tips_below (take b table) n k (omega (arith, le, long)) there in omega (arith, less, long, most))

-- of the tips from before, from a number on, and those that joined, those that are tips now are all tips from it on
pub tips_now : (table : Numbered) (since n : ℕ) → since ≤ n → n ≤ length table.parents
    → filter (is_tip table.parents) (tips_from (take n table.parents) since) ++ tips_from table.parents n ≡ tips_from table.parents since
tips_now table since n first le =
    ap (λ (l : List ℕ). l ++ tips_from table.parents n) (tips_then table since n le)
    ∙ sym (filter-append (is_tip table.parents) (range_with_len since (n - since)) (range_with_len n (length table.parents - n)))
    ∙ ap (filter (is_tip table.parents)) (range_two since (n - since) (length table.parents - n) n (length table.parents - since) (omega (arith, first)) (omega (arith, first, le)))

-- behind the first of those that pass a test come those of the numbers behind it
first_of : (p : ℕ → Bool) (a k t : ℕ) (ts : List ℕ) → filter p (range_with_len a k) ≡ t ∷ ts
    → (a ≤ t) × (t < a + k) × (ts ≡ filter p (range_with_len (t + 1) ((a + k) - (t + 1))))
first_of p a zero t ts e = cc
first_of p a (suc k) t ts e = at (p a) e (first_of p (a + 1) k t ts)
  where
    at : (c : Bool) → cond c (a ∷ filter p (range_with_len (a + 1) k)) (filter p (range_with_len (a + 1) k)) ≡ t ∷ ts
        → (filter p (range_with_len (a + 1) k) ≡ t ∷ ts → (a + 1 ≤ t) × (t < (a + 1) + k) × (ts ≡ filter p (range_with_len (t + 1) (((a + 1) + k) - (t + 1)))))
        → (a ≤ t) × (t < a + suc k) × (ts ≡ filter p (range_with_len (t + 1) ((a + suc k) - (t + 1))))
    at true e more =
        let same : a ≡ t = cc in
        let tail : filter p (range_with_len (a + 1) k) ≡ ts = cc in (
          omega (arith, same),
          omega (arith, same),
          sym tail ∙ ap (λ (m : ℕ). filter p (range_with_len m k)) (let e : a + 1 ≡ t + 1 = omega (arith, same) in e)
              ∙ ap (λ (m : ℕ). filter p (range_with_len (t + 1) m)) (let e : k ≡ (a + suc k) - (t + 1) = omega (arith, same) in e),
        )
    at false e more =
        let rest = more e in (
          omega (arith, rest.0),
          omega (arith, rest.1),
          rest.2 ∙ ap (λ (m : ℕ). filter p (range_with_len (t + 1) (m - (t + 1)))) (let e : (a + 1) + k ≡ a + suc k = omega arith in e),
        )

-- so behind the first tip come those of the numbers behind it
pub tips_next : (table : List (List ℕ)) (since t : ℕ) (ts : List ℕ) → tips_from table since ≡ t ∷ ts
    → (since ≤ t) × (t < length table) × (ts ≡ tips_from table (t + 1))
tips_next table since t ts e =
    let one = first_of (is_tip table) since (length table - since) t ts e in
    let within : t < length table = omega (arith, one.0, one.1) in (
      one.0,
      within,
      one.2 ∙ ap (λ (m : ℕ). filter (is_tip table) (range_with_len (t + 1) m)) (let e : (since + (length table - since)) - (t + 1) ≡ length table - (t + 1) = omega (arith, one.0, within) in e),
    )

module _ (table : Numbered) (order : AreInOrder table.parents) (small : length table.parents ≤ 512) where
  pub last_tip : (b : ℕ) → b + 1 ≡ length table.parents → is_tip table.parents b ≡ true
  last_tip b at =
      ap not (false_from_ne_true (list_any (λ ps. has ps b) table.parents) (λ h.
      let child = any_place (λ ps. has ps b) table.parents h in
      let less : b < child.0 = order child.0 b child.2 in
      absurd (omega (arith, less, child.1, at))))

  -- the view of all blocks stays
  pub all_stays : (b : ℕ) → b + 1 ≡ length table.parents → is_top_tip table (range_with_len 0 (length table.parents)) ≡ true
  all_stays b at =
      top_is table order b (range_with_len 0 (length table.parents)) (record {
        member = in_range 0 (length table.parents) b (omega arith) (omega (arith, at));
        most = λ p h. (let less : p < 0 + length table.parents = below_range 0 (length table.parents) p h in omega (arith, less, at));
      })
      ∙ last_tip b at

  pub bar_stays : (t : ℕ) → t < length table.parents → is_top_tip table (bar_row table t) ≡ is_tip table.parents t
  bar_stays t lt = top_is table order t (bar_row table t) (top_of_bar table order small t lt)

  -- with the last block they are those of all blocks
  pub tips_more : (n b : ℕ) → n ≤ b → b + 1 ≡ length table.parents
      → filter (is_tip table.parents) (tips_from (take b table.parents) n) ++ b ∷ [] ≡ tips_from table.parents n
  tips_more n b le last =
      ap (λ (l : List ℕ). l ++ b ∷ []) (tips_then table n b (omega (arith, last)))
      ∙ ap (λ (c : Bool). filter (is_tip table.parents) (range_with_len n (b - n)) ++ cond c (b ∷ []) []) (sym (last_tip b last))
      ∙ sym (filter-append (is_tip table.parents) (range_with_len n (b - n)) (b ∷ []))
      ∙ ap (filter (is_tip table.parents)) (
      sym (range_more n (b - n) b (omega (arith, le)))
      ∙ ap (range_with_len n) (let e : suc (b - n) ≡ length table.parents - n = omega (arith, le, last) in e)
      )
