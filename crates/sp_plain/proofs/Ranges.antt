-- Numbers from 0 on, those that pass a test, and sums over them.
use Rattle.std.proofs.Common.{◌≡◌, ℕ, zero, suc, ◌+◌, ◌-◌, ◌≤◌, ◌<◌, Bool, true, false, ◌&&◌, cond, List, [], ◌∷◌, ◌++◌, refl, sym, ap, ◌∙◌, arith}
use Rattle.std.specs.Prelude.{filter, ℤ, ◌+ℤ◌}
use Rattle.std.specs.List.{range_with_len}
use Rattle.std.proofs.lemmas.Bool.{false_from_ne_true}
use Rattle.std.proofs.lemmas.Int.{ints}
use Rattle.std.proofs.lemmas.List.{append-nil}
use Rattle.std.proofs.lemmas.List.Elements.{filter-append}
use Rattle.sp_bits.specs.Places.{IsRow, places_where}
use Rattle.sp_model.specs.Graph.{has}
use Rattle.sp_model.specs.Votes.{total}

pub range_last : (a n : ℕ) → range_with_len a (n + 1) ≡ range_with_len a n ++ (a + n) ∷ []
range_last a zero = let e : a ≡ a + 0 = omega arith in ap (λ (k : ℕ). k ∷ []) e
range_last a (suc n) =
    let e : a + 1 + n ≡ a + suc n = omega arith in
    let long : suc n + 1 ≡ suc (n + 1) = omega arith in
    ap (range_with_len a) long ∙ ap (λ (xs : List ℕ). a ∷ xs) (range_last (a + 1) n ∙ ap (λ (k : ℕ). range_with_len (a + 1) n ++ k ∷ []) e)

pub filter_last : (p : ℕ → Bool) (n : ℕ) → filter p (range_with_len 0 (n + 1)) ≡ filter p (range_with_len 0 n) ++ cond (p n) (n ∷ []) []
filter_last p n =
    let e : 0 + n ≡ n = omega arith in
    ap (filter p) (range_last 0 n ∙ ap (λ (k : ℕ). range_with_len 0 n ++ k ∷ []) e) ∙ filter-append p (range_with_len 0 n) (n ∷ [])

-- no number from m on passes
pub filter_short : (p : ℕ → Bool) (m k : ℕ) → ((a : ℕ) → m ≤ a → p a ≡ false) → filter p (range_with_len 0 (m + k)) ≡ filter p (range_with_len 0 m)
filter_short p m zero none = let e : m + 0 ≡ m = omega arith in ap (λ (n : ℕ). filter p (range_with_len 0 n)) e
filter_short p m (suc k) none =
    let e : m + suc k ≡ m + k + 1 = omega arith in
    let fails : p (m + k) ≡ false = none (m + k) (omega arith) in
    ap (λ (n : ℕ). filter p (range_with_len 0 n)) e ∙ filter_last p (m + k)
    ∙ rw fails (append-nil (filter p (range_with_len 0 (m + k)))) ∙ filter_short p m k none

-- a row whose places are below n, by those numbers
pub row_below : (set : List ℕ) (n : ℕ) → IsRow set → n ≤ 512 → ((a : ℕ) → n ≤ a → has set a ≡ false) → filter (has set) (range_with_len 0 n) ≡ set
unfolding IsRow places_where
row_below set n row le none =
    let all : n + (512 - n) ≡ 512 = omega arith in
    sym (filter_short (has set) n (512 - n) none) ∙ ap (λ (m : ℕ). filter (has set) (range_with_len 0 m)) all ∙ sym row

total-append : (f : ℕ → ℤ) (xs ys : List ℕ) → total f (xs ++ ys) ≡ total f xs +ℤ total f ys
total-append f [] ys = omega (arith, ints)
total-append f (x ∷ xs) ys =
    let rest : total f (xs ++ ys) ≡ total f xs +ℤ total f ys = total-append f xs ys in
    omega (arith, ints)

pub total_more_yes : (p : ℕ → Bool) (f : ℕ → ℤ) (n : ℕ) → p n ≡ true → total f (filter p (range_with_len 0 (n + 1))) ≡ total f (filter p (range_with_len 0 n)) +ℤ f n
total_more_yes p f n passes =
    let list : filter p (range_with_len 0 (n + 1)) ≡ filter p (range_with_len 0 n) ++ n ∷ [] = filter_last p n ∙ rw passes refl in
    let sum : total f (filter p (range_with_len 0 n) ++ n ∷ []) ≡ total f (filter p (range_with_len 0 n)) +ℤ total f (n ∷ []) = total-append f (filter p (range_with_len 0 n)) (n ∷ []) in
    let whole : total f (filter p (range_with_len 0 (n + 1))) ≡ total f (filter p (range_with_len 0 n) ++ n ∷ []) = ap (total f) list in
    omega (arith, ints)

pub total_more_no : (p : ℕ → Bool) (f : ℕ → ℤ) (n : ℕ) → p n ≡ false → total f (filter p (range_with_len 0 (n + 1))) ≡ total f (filter p (range_with_len 0 n))
total_more_no p f n fails = ap (total f) (filter_last p n ∙ rw fails (append-nil (filter p (range_with_len 0 n))))

-- those that pass both tests
pub filter-filter : (p q : ℕ → Bool) (xs : List ℕ) → filter q (filter p xs) ≡ filter (λ x. p x && q x) xs
filter-filter p q [] = refl
filter-filter p q (x ∷ xs) = at (p x) (q x) (filter-filter p q xs)
  where
    at : (a b : Bool) → filter q (filter p xs) ≡ filter (λ x. p x && q x) xs → filter q (cond a (x ∷ filter p xs) (filter p xs)) ≡ cond (a && q x) (x ∷ filter (λ x. p x && q x) xs) (filter (λ x. p x && q x) xs)
    at true b rest = ap (λ (l : List ℕ). cond (q x) (x ∷ l) l) rest
    at false b rest = rest

false_at : (set : List ℕ) (n a : ℕ) → ((z : ℕ) → has set z ≡ true → z < n) → n ≤ a → has set a ≡ false
false_at set n a below le = false_from_ne_true (has set a) (λ h. let lt : a < n = below a h in omega arith)

-- the sum over a row, and over its members that have a block in their past, by those numbers
pub total_row : (f : ℕ → ℤ) (set : List ℕ) (n : ℕ) → IsRow set → n ≤ 512 → ((z : ℕ) → has set z ≡ true → z < n) → total f (filter (has set) (range_with_len 0 n)) ≡ total f set
total_row f set n row le below = ap (total f) (row_below set n row le (λ a h. false_at set n a below h))

pub total_future : (f : ℕ → ℤ) (p : ℕ → Bool) (set : List ℕ) (n : ℕ) → IsRow set → n ≤ 512 → ((z : ℕ) → has set z ≡ true → z < n) → total f (filter (λ w. has set w && p w) (range_with_len 0 n)) ≡ total f (filter p set)
total_future f p set n row le below =
    ap (total f) (sym (filter-filter (has set) p (range_with_len 0 n)) ∙ ap (filter p) (row_below set n row le (λ a h. false_at set n a below h)))
