-- Numbers that pass a test as a list, which is read from flags: one for each number of a span in which all of them lie.
use Rattle.std.proofs.Common.{◌≡◌, ℕ, zero, suc, Bool, true, false, cond, eqb, ◌+◌, ◌-◌, ◌||◌, ◌<◌, ◌≤◌, List, [], ◌∷◌, ◌++◌, length, map, get_or, set, take, Ordering, Less, Equal, Greater, refl, sym, ap, subst, ◌∙◌, inl, inr, arith}
use Rattle.std.specs.Prelude.{All, filter, max, min}
use Rattle.std.specs.List.{list_any, range_with_len}
use Rattle.std.specs.Cmp.{nat_cmp_is}
use Rattle.std.specs.Ordering.{is_lt, nat_cmp, ord_max}
use Rattle.std.proofs.lemmas.Bool.{cases_lt, eq-eqb, eqb-false, eqb-true, false_from_ne_true, ne_eqb}
use Rattle.std.proofs.Math.Nat.{le-max_left, le-max_right, max-eq_left, max-eq_right, max-le, min-le_left, min-le_right}
use Rattle.std.proofs.lemmas.List.{append-nil, get_or-set_other, get_or-set_same, take_all, take_more}
use Rattle.std.proofs.lemmas.List.Elements.{filter-append, All-push}
use Rattle.std.proofs.lemmas.List.FromFn.{filter_of_map_range_with_len_more}
use Rattle.sp_carry.specs.Flags.{is_set}
use Rattle.sp_carry.proofs.Members.{IsIn, any_agrees, member_meets, member_of_any}
use Rattle.sp_accept.proofs.Ranges.{in_range}

-- one flag more
pub marked : (flags : List Bool) (number n : ℕ) → number < length flags → is_set (set flags number true) n ≡ (is_set flags n || eqb number n)
marked flags number n lt = at (eqb number n) refl
  where
    or_true : (b : Bool) → true ≡ (b || true)
    or_true true = refl
    or_true false = refl

    or_false : (b : Bool) → b ≡ (b || false)
    or_false true = refl
    or_false false = refl

    at : (c : Bool) → eqb number n ≡ c → is_set (set flags number true) n ≡ (is_set flags n || c)
    at true e = (let same : number ≡ n = eqb-true number n e in ap (is_set (set flags number true)) (sym same) ∙ get_or-set_same flags number true false lt ∙ or_true (is_set flags n))
    at false e = get_or-set_other flags number n true false (λ s. eqb-false number n e (sym s)) ∙ or_false (is_set flags n)

-- a range in two parts
range_parts : (a n m b t : ℕ) → a + n ≡ b → n + m ≡ t → range_with_len a t ≡ range_with_len a n ++ range_with_len b m
range_parts a zero m b t at long =
    (let start : a ≡ b = omega (arith, at) in let same : t ≡ m = omega (arith, long) in ap (λ (l : ℕ). range_with_len a l) same ∙ ap (λ (c : ℕ). range_with_len c m) start)
range_parts a (suc n) m b zero at long = absurd (omega (arith, long))
range_parts a (suc n) m b (suc t) at long = ap (λ (l : List ℕ). a ∷ l) (range_parts (a + 1) n m b t (omega (arith, at)) (omega (arith, long)))

-- where none passes
none_pass : (test : ℕ → Bool) (a n : ℕ) → ((x : ℕ) → a ≤ x → x < a + n → test x ≡ false) → filter test (range_with_len a n) ≡ []
none_pass test a zero h = refl
none_pass test a (suc n) h =
    rw (h a (omega arith) (omega arith)) (none_pass test (a + 1) n (λ x ge lt. h x (omega (arith, ge)) (omega (arith, lt))))

-- where those that pass lie in the span
pub span_has_all : (test : ℕ → Bool) (first end n : ℕ) → first ≤ end → end ≤ n → ((x : ℕ) → test x ≡ true → (first ≤ x) × (x < end))
    → filter test (range_with_len 0 n) ≡ filter test (range_with_len first (end - first))
span_has_all test first end n le within span =
    ap (filter test) parts
    ∙ filter-append test (range_with_len 0 first) (range_with_len first (end - first) ++ range_with_len end (n - end))
    ∙ ap (λ (l : List ℕ). l ++ filter test (range_with_len first (end - first) ++ range_with_len end (n - end)))
    (none_pass test 0 first (λ x _ lt. false_from_ne_true (test x) (λ on. (let low = (span x on).0 in omega (arith, low, lt)))))
    ∙ filter-append test (range_with_len first (end - first)) (range_with_len end (n - end))
    ∙ ap (λ (l : List ℕ). filter test (range_with_len first (end - first)) ++ l)
    (none_pass test end (n - end) (λ x ge _. false_from_ne_true (test x) (λ on. (let high = (span x on).1 in omega (arith, high, ge)))))
    ∙ append-nil (filter test (range_with_len first (end - first)))
  where
    parts : range_with_len 0 n ≡ range_with_len 0 first ++ (range_with_len first (end - first) ++ range_with_len end (n - end))
    parts =
        range_parts 0 first (n - first) first n (omega arith) (omega (arith, le, within))
        ∙ ap (λ (l : List ℕ). range_with_len 0 first ++ l) (range_parts first (end - first) (n - end) end (n - first) (omega (arith, le)) (omega (arith, le, within)))

-- one number more
pub span_more : (p : ℕ → Bool) (first n j : ℕ) (before after : List ℕ) → first + n ≡ j → before ≡ filter p (range_with_len first n) → after ≡ before ++ cond (p j) (j ∷ []) []
    → after ≡ filter p (range_with_len first (n + 1))
span_more p first n j before after at e f =
    f ∙ ap (λ (l : List ℕ). l ++ cond (p j) (j ∷ []) []) (e ∙ ap (filter p) (sym (map_same (range_with_len first n)))) ∙ sym (filter_of_map_range_with_len_more p (λ x. x) first n j at)
    ∙ ap (filter p) (map_same (range_with_len first (n + 1)))
  where
    map_same : (xs : List ℕ) → map (λ x. x) xs ≡ xs
    map_same [] = refl
    map_same (x ∷ xs) = ap (λ (l : List ℕ). x ∷ l) (map_same xs)

filter_in : (p q : ℕ → Bool) (xs : List ℕ) → ((x : ℕ) → IsIn xs x → p x ≡ q x) → filter p xs ≡ filter q xs
filter_in p q [] h = refl
filter_in p q (x ∷ xs) h =
    ap (λ (c : Bool). cond c (x ∷ filter p xs) (filter p xs)) (h x (inl refl)) ∙ ap (λ (l : List ℕ). cond (q x) (x ∷ l) l) (filter_in p q xs (λ y there. h y (inr there)))

-- numbers told by how far they stand behind the first one
apart_same : (first a x : ℕ) → first ≤ a → first ≤ x → eqb (a - first) (x - first) ≡ eqb a x
apart_same first a x la lx = at (eqb a x) refl
  where
    at : (b : Bool) → eqb a x ≡ b → eqb (a - first) (x - first) ≡ b
    at true e = (let same : a ≡ x = eqb-true a x e in eq-eqb (a - first) (x - first) (omega (arith, same)))
    at false e = ne_eqb (a - first) (x - first) (λ same. eqb-false a x e (omega (arith, same, la, lx)))

-- the numbers of a span whose flags are set, where the flags are those of what some members are of
pub span_listed : (noted : List Bool) (of : ℕ → ℕ) (some : List ℕ) (low first end n : ℕ) (flags : List Bool) (list items : List ℕ) → first ≡ min low end → end ≤ n
    → All (λ c. low ≤ of c) some → All (λ c. of c < end) some → ((i : ℕ) → is_set noted i ≡ list_any (λ c. eqb (of c - first) i) some) → flags ≡ noted
    → items ≡ filter (λ x. is_set flags (x - first)) (range_with_len first (end - first)) → list ≡ items → list ≡ filter (λ x. list_any (λ c. eqb (of c) x) some) (range_with_len 0 n)
span_listed noted of some low first end n flags list items start within above below told same_flags is same_list =
    same_list ∙ is ∙ ap (λ (l : List Bool). filter (λ x. is_set l (x - first)) (range_with_len first (end - first))) same_flags
    ∙ filter_in (λ x. is_set noted (x - first)) (λ x. list_any (λ c. eqb (of c) x) some) (range_with_len first (end - first))
    (λ x there. told (x - first) ∙ any_agrees (λ c. eqb (of c - first) (x - first)) (λ c. eqb (of c) x) some
    (λ c in_c. apart_same first (of c) x (from c in_c) (in_range first (end - first) x there).0))
    ∙ sym (span_has_all (λ x. list_any (λ c. eqb (of c) x) some) first end n order within span)
  where
    order : first ≤ end
    order = (let le : min low end ≤ end = min-le_right low end in omega (arith, start, le))

    from : (c : ℕ) → IsIn some c → first ≤ of c
    from c in_c = (let le : min low end ≤ low = min-le_left low end in let own : low ≤ of c = member_meets (λ c. low ≤ of c) some c above in_c in omega (arith, start, le, own))

    span : (x : ℕ) → list_any (λ c. eqb (of c) x) some ≡ true → (first ≤ x) × (x < end)
    span x h =
        let c : (c : ℕ) × IsIn some c × (eqb (of c) x ≡ true) = member_of_any (λ c. eqb (of c) x) some h in
        let same : of c.0 ≡ x = eqb-true (of c.0) x c.2 in
        let a : first ≤ of c.0 = from c.0 c.1 in
        let b : of c.0 < end = member_meets (λ c. of c < end) some c.0 below c.1 in
        (omega (arith, same, a), omega (arith, same, b))

-- ---- what holds of the first ones, and of one more

all_more : (P Q : ℕ → Type 0) (xs : List ℕ) (i : ℕ) → i < length xs → ((c : ℕ) → P c → Q c) → All P (take i xs) → ((d : ℕ) → Q (get_or xs i d)) → All Q (take (i + 1) xs)
all_more P Q xs i lt still all last =
    subst (All Q) (sym (take_more xs i 0 lt)) (All-push Q (take i xs) (get_or xs i 0) (λ k d less. still (get_or (take i xs) k d) (all k d less)) (last 0))

pub all_whole : (P : ℕ → Type 0) (xs : List ℕ) (i : ℕ) → length xs ≤ i → All P (take i xs) → All P xs
all_whole P xs i le all = subst (All P) (take_all i xs le) all

pub lowest_more : (of : ℕ → ℕ) (xs : List ℕ) (i first tx next : ℕ) → i < length xs → next ≡ min first tx → ((d : ℕ) → tx ≡ of (get_or xs i d)) → All (λ c. first ≤ of c) (take i xs)
    → All (λ c. next ≤ of c) (take (i + 1) xs)
lowest_more of xs i first tx next lt now is all =
    all_more (λ c. first ≤ of c) (λ c. next ≤ of c) xs i lt (λ c le. (let low : min first tx ≤ first = min-le_left first tx in omega (arith, low, now, le))) all
    (λ d. let low : min first tx ≤ tx = min-le_right first tx in omega (arith, low, now, is d))

-- the greater one, as a call of `max` tells it
pub greater_is : (a b next : ℕ) → next ≡ ord_max nat_cmp a b → next ≡ max a b
greater_is a b next e =
    elim (cases_lt b a) [
      | inl less ↦ e ∙ ap (λ (o : Ordering). cond (is_lt o) a b) (sym (nat_cmp_is b a Less less)) ∙ sym (max-eq_left (omega (arith, less)))
      | inr le ↦ elim (cases_lt a b) [
        | inl more ↦ e ∙ ap (λ (o : Ordering). cond (is_lt o) a b) (sym (nat_cmp_is b a Greater more)) ∙ sym (max-eq_right (omega (arith, more)))
        | inr ge ↦ (let same : b ≡ a = omega (arith, le, ge) in e ∙ ap (λ (o : Ordering). cond (is_lt o) a b) (sym (nat_cmp_is b a Equal same)) ∙ sym (max-eq_right (omega (arith, same))))
      ]
    ]

pub bound_more : (of : ℕ → ℕ) (xs : List ℕ) (i end tx next : ℕ) → i < length xs → next ≡ max end (tx + 1) → ((d : ℕ) → tx ≡ of (get_or xs i d)) → All (λ c. of c < end) (take i xs)
    → All (λ c. of c < next) (take (i + 1) xs)
bound_more of xs i end tx next lt now is all =
    all_more (λ c. of c < end) (λ c. of c < next) xs i lt (λ c less. (let high : end ≤ max end (tx + 1) = le-max_left end (tx + 1) in omega (arith, high, now, less))) all
    (λ d. let high : tx + 1 ≤ max end (tx + 1) = le-max_right end (tx + 1) in omega (arith, high, now, is d))

pub bound_within : (end tx count next : ℕ) → next ≡ max end (tx + 1) → end ≤ count → tx < count → next ≤ count
bound_within end tx count next now le lt = (let most : max end (tx + 1) ≤ count = max-le le (omega (arith, lt)) in omega (arith, most, now))
