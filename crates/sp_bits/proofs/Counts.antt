-- Loops over places: how many pass so far, whether each passes, and which is the last.
use Rattle.std.proofs.Common.{◌≡◌, ℕ, zero, suc, ◌+◌, ◌<◌, ◌≤◌, Bool, true, false, cond, ◌&&◌, List, [], ◌∷◌, length, refl, sym, ap, ◌∙◌, inl, inr, eqb, Option, Some, None, arith}
use Rattle.std.specs.Prelude.{filter, nat_lt, IfSome, IfNone, IsNone, ◌↔◌}
use Rattle.std.specs.List.{list_all, range_with_len}
use Rattle.std.proofs.lemmas.Bool.{cases_lt, or_left, or_right, or_cases, eq-eqb, eqb-true, false≢true, and_parts, and_from, ltb-true, lt-ltb}
use Rattle.sp_bits.specs.Places.{has, places_where, members_below, IsGreatest}
use Rattle.sp_bits.specs.Members.{has-filter}
use Rattle.sp_bits.specs.Words.{bit_in, IsLast}
use Rattle.sp_bits.proofs.Sets.{has-view}

-- what the count of a loop over places says
abbrev pub IsCount : (ℕ → Bool) → ℕ → ℕ → Type 0
IsCount test k count = (count ≡ length (filter test (range_with_len 0 k))) × (count ≤ k)

-- a meet fails where one part does
pub and_false : (c d : Bool) → d ≡ false → (c && d) ≡ false
and_false true d e = e
and_false false d e = refl

all_pass : (one other : ℕ → Bool) (a n : ℕ) → ((k : ℕ) → k < a + n → one k ≡ true → other k ≡ true)
    → list_all other (filter one (range_with_len a n)) ≡ true
all_pass one other a zero h = refl
all_pass one other a (suc n) h = at_first (one a) refl (all_pass one other (a + 1) n (λ k le. h k (omega arith)))
  where
    at_first : (c : Bool) → one a ≡ c → list_all other (filter one (range_with_len (a + 1) n)) ≡ true
        → list_all other (cond c (a ∷ filter one (range_with_len (a + 1) n)) (filter one (range_with_len (a + 1) n))) ≡ true
    at_first true e rest = and_from (other a) (list_all other (filter one (range_with_len (a + 1) n))) (h a (omega arith) e) rest
    at_first false e rest = rest

-- one passes the one test alone
one_fails : (one other : ℕ → Bool) (a n k : ℕ) → a ≤ k → k < a + n → one k ≡ true → other k ≡ false
    → list_all other (filter one (range_with_len a n)) ≡ false
one_fails one other a zero k low high here fails = absurd (omega arith)
one_fails one other a (suc n) k low high here fails =
    elim (cases_lt a k) [
      | inl less ↦ later (one a) (one_fails one other (a + 1) n k (omega arith) (omega arith) here fails)
      | inr le ↦ (let same : k ≡ a = omega arith in first (one a) (other a) (sym (ap one same) ∙ here) (sym (ap other same) ∙ fails))
    ]
  where
    later : (c : Bool) → list_all other (filter one (range_with_len (a + 1) n)) ≡ false
        → list_all other (cond c (a ∷ filter one (range_with_len (a + 1) n)) (filter one (range_with_len (a + 1) n))) ≡ false
    later true rest = and_false (other a) (list_all other (filter one (range_with_len (a + 1) n))) rest
    later false rest = rest

    first : (c d : Bool) → c ≡ true → other a ≡ false
        → list_all other (cond c (a ∷ filter one (range_with_len (a + 1) n)) (filter one (range_with_len (a + 1) n))) ≡ false
    first true d e is = ap (λ (b : Bool). b && list_all other (filter one (range_with_len (a + 1) n))) is
    first false d e is = absurd (false≢true e)

-- each place of a row that passes one test passes the other
pub all_places : (one other : ℕ → Bool) → ((k : ℕ) → k < 512 → one k ≡ true → other k ≡ true) → true ≡ list_all other (places_where one)
unfolding places_where
all_places one other h = sym (all_pass one other 0 512 (λ k le. h k (omega (arith, le))))

-- a place passes the one test alone
pub some_place : (one other : ℕ → Bool) (k : ℕ) → k < 512 → one k ≡ true → other k ≡ false → false ≡ list_all other (places_where one)
unfolding places_where
some_place one other k le here fails = sym (one_fails one other 0 512 k (omega arith) (omega arith) here fails)

-- all places are counted at the end
pub counted : (test : ℕ → Bool) (count end : ℕ) → end ≡ 512 → count ≡ length (filter test (range_with_len 0 end)) → count ≡ length (places_where test)
unfolding places_where
counted test count end is so_far = so_far ∙ ap (λ (n : ℕ). length (filter test (range_with_len 0 n))) is

all_same : (f g : ℕ → Bool) (xs : List ℕ) → ((k : ℕ) → has xs k ≡ true → f k ≡ g k) → list_all f xs ≡ list_all g xs
all_same f g [] h = refl
all_same f g (x ∷ xs) h =
    let here : f x ≡ g x = h x (or_left (eqb x x) (has xs x) (eq-eqb x x refl)) in
    let rest : list_all f xs ≡ list_all g xs = all_same f g xs (λ k there. h k (or_right (eqb x k) (has xs k) there)) in
    cc

has-range_small : (a n k : ℕ) → has (range_with_len a n) k ≡ true → k < a + n
has-range_small a zero k h = absurd (false≢true h)
has-range_small a (suc n) k h =
    elim (or_cases (eqb a k) (has (range_with_len (a + 1) n) k) h) [
      | inl here ↦ (let same : a ≡ k = eqb-true a k here in omega arith)
      | inr later ↦ (let rest : k < a + 1 + n = has-range_small (a + 1) n k later in omega arith)
    ]

-- each place of a row is below 512
pub has-small : (test : ℕ → Bool) (k : ℕ) → has (places_where test) k ≡ true → k < 512
unfolding places_where
has-small test k h =
    let parts = and_parts (has (range_with_len 0 512) k) (test k) (sym (has-filter test (range_with_len 0 512) k) ∙ h) in
    has-range_small 0 512 k parts.0

-- whether the other row has each place of a row
pub within-view : (one other : ℕ → Bool) (s t : List ℕ) → places_where one ≡ s → places_where other ≡ t
    → list_all other (places_where one) ≡ list_all (has t) s
within-view one other s t own others =
    all_same other (has t) (places_where one) (λ k there. has-view other t k others (has-small one k there))
    ∙ ap (list_all (has t)) own

-- a set is the true places of the first `end`
pub record AreTrueBelow (words : List ℕ) (end : ℕ) (set : List ℕ) : Type 0 where
  pub into : (k : ℕ) → has set k ≡ true → (k < end) × (bit_in words k ≡ true)
  pub from : (k : ℕ) → k < end → bit_in words k ≡ true → has set k ≡ true

pub AreTrueBelow-all : (words : List ℕ) (set : List ℕ) → places_where (bit_in words) ≡ set → AreTrueBelow words 512 set
AreTrueBelow-all words set is = record {
  into = λ k there.
      let in_view : has (places_where (bit_in words)) k ≡ true = ap (λ (l : List ℕ). has l k) is ∙ there in
      let small : k < 512 = has-small (bit_in words) k in_view in
      (small, has-view (bit_in words) set k is small ∙ there);
  from = λ k le here. sym (has-view (bit_in words) set k is le) ∙ here;
}

pub AreTrueBelow-end : (words : List ℕ) (set : List ℕ) (end : ℕ) → end < 512 → places_where (bit_in words) ≡ set
    → AreTrueBelow words end (members_below set end)
AreTrueBelow-end words set end small is =
    let all = AreTrueBelow-all words set is in
    record {
      into = λ k there.
          let parts = and_parts (has set k) (nat_lt k end) (sym (has-filter (λ p. nat_lt p end) set k) ∙ there) in
          (ltb-true k end parts.1, (all.into k parts.0).1);
      from = λ k le here.
          has-filter (λ p. nat_lt p end) set k ∙ and_from (has set k) (nat_lt k end) (all.from k (omega arith) here) (lt-ltb k end le);
    }

-- the last true place is the greatest
pub greatest : (words : List ℕ) (end : ℕ) (set : List ℕ) (place : ℕ) → AreTrueBelow words end set → IsLast words end place → IsGreatest set place
greatest words end set place are last = record {
  member = are.from place last.below last.here;
  most = λ p there.
      let known = are.into p there in
      elim (cases_lt place p) [
        | inl less ↦ absurd (false≢true (sym (last.behind p less known.0) ∙ known.1))
        | inr le ↦ le
      ];
}

empty_set : (set : List ℕ) → ((k : ℕ) → has set k ≡ true → ⊥) → set ≡ []
empty_set [] h = refl
empty_set (x ∷ xs) h = absurd (h x (or_left (eqb x x) (has xs x) (eq-eqb x x refl)))

-- there is no last true place exactly where the set is empty
pub none_where_empty : (words : List ℕ) (end : ℕ) (set : List ℕ) (found : Option ℕ) → AreTrueBelow words end set
    → IfSome found (IsLast words end) → IfNone found ((k : ℕ) → k < end → bit_in words k ≡ false)
    → IsNone found ↔ (set ≡ [])
none_where_empty words end set None are some none =
    (λ _. empty_set set (λ k there. (let known = are.into k there in false≢true (sym (none k known.0) ∙ known.1))), λ _. refl)
none_where_empty words end set (Some place) are some none =
    (λ is. absurd (false≢true (sym is)), λ e. absurd (false≢true (sym (ap (λ (l : List ℕ). has l place) e) ∙ are.from place some.below some.here)))

pub greatest_found : (words : List ℕ) (end : ℕ) (set : List ℕ) (found : Option ℕ) → AreTrueBelow words end set
    → IfSome found (IsLast words end) → IfSome found (IsGreatest set)
greatest_found words end set None are some = some
greatest_found words end set (Some place) are some = greatest words end set place are some
