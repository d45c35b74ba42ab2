-- Sets of places by the tests that their places pass.
use Rattle.std.proofs.Common.{◌≡◌, ◌≢◌, ℕ, zero, suc, ◌+◌, ◌<◌, Bool, true, false, cond, ◌||◌, ◌&&◌, not, List, [], ◌∷◌, refl, sym, ap, ◌∙◌, eqb, arith}
use Rattle.std.specs.Prelude.{filter}
use Rattle.std.specs.List.{range_with_len}
use Rattle.std.proofs.lemmas.Bool.{eqb-true, eq-eqb, false≢true, or_right}
use Rattle.sp_bits.specs.Places.{has, places_where, meet, IsRow}
use Rattle.sp_bits.specs.Members.{has-places_where}

pub filter_same : (p q : ℕ → Bool) (a n : ℕ) → ((k : ℕ) → k < a + n → p k ≡ q k) → filter p (range_with_len a n) ≡ filter q (range_with_len a n)
filter_same p q a zero h = refl
filter_same p q a (suc n) h =
    let here : p a ≡ q a = h a (omega arith) in
    let rest : filter p (range_with_len (a + 1) n) ≡ filter q (range_with_len (a + 1) n) = filter_same p q (a + 1) n (λ k le. h k (omega arith)) in
    ap (λ (c : Bool). cond c (a ∷ filter p (range_with_len (a + 1) n)) (filter p (range_with_len (a + 1) n))) here
    ∙ ap (λ (l : List ℕ). cond (q a) (a ∷ l) l) rest

-- two tests that agree below 512 have the same places
pub places_same : (p q : ℕ → Bool) → ((k : ℕ) → k < 512 → p k ≡ q k) → places_where p ≡ places_where q
unfolding places_where
places_same p q h = filter_same p q 0 512 (λ k le. h k (omega arith))

pub or_false : (c : Bool) → (c || false) ≡ c
or_false true = refl
or_false false = refl

-- a row's places are read from it
pub has-view : (test : ℕ → Bool) (s : List ℕ) (k : ℕ) → places_where test ≡ s → k < 512 → test k ≡ has s k
has-view test s k is le = sym (has-places_where test k le) ∙ ap (λ (l : List ℕ). has l k) is

-- one place is put in
pub set-view : (old new : ℕ → Bool) (s : List ℕ) (place : ℕ) → places_where old ≡ s → new place ≡ true
    → ((k : ℕ) → k < 512 → k ≢ place → new k ≡ old k) → places_where new ≡ places_where (λ k. has s k || eqb k place)
set-view old new s place is here others =
    places_same new (λ k. has s k || eqb k place) (λ k le. by k (eqb k place) le refl)
  where
    by : (k : ℕ) (c : Bool) → k < 512 → eqb k place ≡ c → new k ≡ (has s k || c)
    by k true le e = ap new (eqb-true k place e) ∙ here ∙ sym (or_right (has s k) true refl)
    by k false le e =
        (let other : k ≢ place = λ same. false≢true (sym e ∙ eq-eqb k place same) in others k le other)
        ∙ has-view old s k is le ∙ sym (or_false (has s k))

-- one place is taken out
pub clear-view : (old new : ℕ → Bool) (s : List ℕ) (place : ℕ) → places_where old ≡ s → new place ≡ false
    → ((k : ℕ) → k < 512 → k ≢ place → new k ≡ old k) → places_where new ≡ places_where (λ k. has s k && not (eqb k place))
clear-view old new s place is here others =
    places_same new (λ k. has s k && not (eqb k place)) (λ k le. by k (eqb k place) le refl)
  where
    and_false : (c : Bool) → (c && false) ≡ false
    and_false true = refl
    and_false false = refl

    and_true : (c : Bool) → (c && true) ≡ c
    and_true true = refl
    and_true false = refl

    by : (k : ℕ) (c : Bool) → k < 512 → eqb k place ≡ c → new k ≡ (has s k && not c)
    by k true le e = ap new (eqb-true k place e) ∙ here ∙ sym (and_false (has s k))
    by k false le e =
        (let other : k ≢ place = λ same. false≢true (sym e ∙ eq-eqb k place same) in others k le other)
        ∙ has-view old s k is le ∙ sym (and_true (has s k))

-- a row that is made place by place from two
pub combined : (f : Bool → Bool → Bool) (one other row : ℕ → Bool) (s t : List ℕ) → places_where one ≡ s → places_where other ≡ t
    → ((k : ℕ) → k < 512 → row k ≡ f (one k) (other k)) → places_where row ≡ places_where (λ k. f (has s k) (has t k))
combined f one other row s t own others each =
    places_same row (λ k. f (has s k) (has t k))
    (λ k le. each k le ∙ ap (λ (c : Bool). f c (other k)) (has-view one s k own le) ∙ ap (f (has s k)) (has-view other t k others le))

-- the list of a row is what each row is
pub IsRow-view : (test : ℕ → Bool) (s : List ℕ) → places_where test ≡ s → IsRow s
unfolding IsRow
IsRow-view test s is = sym is ∙ places_same test (has s) (λ k le. has-view test s k is le)

-- the places that two rows have are those of their meet
pub meet-view : (one other : ℕ → Bool) (s t : List ℕ) → places_where one ≡ s → places_where other ≡ t
    → places_where (λ k. one k && other k) ≡ meet s t
meet-view one other s t own others =
    places_same (λ k. one k && other k) (λ k. has s k && has t k)
    (λ k le. ap (λ (c : Bool). c && other k) (has-view one s k own le) ∙ ap (λ (c : Bool). has s k && c) (has-view other t k others le))

-- a row meets itself in itself
pub count-view : (test : ℕ → Bool) (s : List ℕ) → places_where test ≡ s → places_where (λ k. test k && test k) ≡ s
count-view test s is = places_same (λ k. test k && test k) test (λ k le. both (test k)) ∙ is
  where
    both : (c : Bool) → (c && c) ≡ c
    both true = refl
    both false = refl

-- the meet of a row with another is what of its list the other has
pub meet-filter : (s t : List ℕ) → IsRow s → meet s t ≡ filter (has t) s
unfolding places_where IsRow
meet-filter s t row = sym (ap (filter (has t)) row ∙ filter_twice (has s) (has t) (range_with_len 0 512))
  where
    filter_twice : (p q : ℕ → Bool) (xs : List ℕ) → filter q (filter p xs) ≡ filter (λ k. p k && q k) xs
    filter_twice p q [] = refl
    filter_twice p q (x ∷ xs) = at_first (p x) (q x) refl (filter_twice p q xs)
      where
        at_first : (c d : Bool) → q x ≡ d → filter q (filter p xs) ≡ filter (λ k. p k && q k) xs
            → filter q (cond c (x ∷ filter p xs) (filter p xs)) ≡ cond (c && d) (x ∷ filter (λ k. p k && q k) xs) (filter (λ k. p k && q k) xs)
        at_first true d e rest = ap (λ (b : Bool). cond b (x ∷ filter q (filter p xs)) (filter q (filter p xs))) e ∙ ap (λ (l : List ℕ). cond d (x ∷ l) l) rest
        at_first false d e rest = rest
