-- A list of different numbers and the map of their places belong together again, where a number comes or goes at the end.
use Rattle.std.proofs.Common.{rules, tests, ◌≡◌, ℕ, suc, ◌+◌, Bool, true, false, cond, ◌||◌, List, [], ◌∷◌, ◌++◌, length, eqb, Option, Some, None, position, refl, sym, ap, ◌∙◌, inl, inr, arith}
use Rattle.std.specs.Prelude.{nat_eq, is_some}
use Rattle.std.specs.BTreeMap.{BTreeMap, get, Updates}
use Rattle.std.specs.List.{position_from}
use Rattle.std.specs.Ordering.{is_eq, nat_cmp}
use Rattle.std.proofs.lemmas.Bool.{cases_Bool, false≢true, eqb-true, eq-eqb}
use Rattle.std.proofs.lemmas.Iterator.Adapters.{position_from-zero}
use Rattle.sp_model.specs.Graph.{AreDistinct, has}
use Rattle.sp_carry.specs.Places.{HasPlaces}

-- the place in a list with one more element
abbrev or_last : Option ℕ → Bool → ℕ → Option ℕ
or_last None b n = cond b (Some n) None
or_last (Some i) b n = Some i

push_from : (test : ℕ → Bool) (i : ℕ) (xs : List ℕ) (y : ℕ) → position_from test i (xs ++ y ∷ []) ≡ or_last (position_from test i xs) (test y) (i + length xs)
push_from test i [] y = let e : i + 0 ≡ i = omega arith in rw e refl
push_from test i (x ∷ xs) y = elim (cases_Bool (test x)) [
  | inl e ↦ rw (e) refl
  | inr e ↦ (let next : i + 1 + length xs ≡ i + suc (length xs) = omega arith in rw (e, push_from test (i + 1) xs y, next) refl)
]

push : (test : ℕ → Bool) (xs : List ℕ) (y : ℕ) → position test (xs ++ y ∷ []) ≡ or_last (position test xs) (test y) (length xs)
push test xs y =
    let start : 0 + length xs ≡ length xs = omega arith in
    position_from-zero test (xs ++ y ∷ []) ∙ push_from test 0 xs y ∙ ap (or_last (position_from test 0 xs) (test y)) start
    ∙ sym (ap (λ (o : Option ℕ). or_last o (test y) (length xs)) (position_from-zero test xs))

-- numbers are equal where they compare so
eq_by_cmp : (x y : ℕ) → is_eq (nat_cmp x y) ≡ nat_eq x y
eq_by_cmp x y = search (rules, tests)

pub eqb_flip : (x y : ℕ) → eqb x y ≡ eqb y x
eqb_flip x y = at (eqb x y) (eqb y x) refl refl
  where
    at : (a b : Bool) → eqb x y ≡ a → eqb y x ≡ b → a ≡ b
    at true true e f = refl
    at false false e f = refl
    at true false e f = sym (eq-eqb y x (sym (eqb-true x y e))) ∙ f
    at false true e f = sym e ∙ eq-eqb x y (sym (eqb-true y x f))

-- a number that has a place is in the list
has_from : (i : ℕ) (xs : List ℕ) (k : ℕ) → has xs k ≡ is_some (position_from (nat_eq k) i xs)
has_from i [] k = refl
has_from i (x ∷ xs) k = elim (cases_Bool (nat_eq k x)) [
  | inl e ↦ rw (eqb_flip x k, e) refl
  | inr e ↦ rw (eqb_flip x k, e) (has_from (i + 1) xs k)
]

pub has_place : (xs : List ℕ) (k : ℕ) → has xs k ≡ is_some (position (nat_eq k) xs)
has_place xs k = has_from 0 xs k ∙ ap is_some (sym (position_from-zero (nat_eq k) xs))

distinct_push : (xs : List ℕ) (k : ℕ) → AreDistinct xs → has xs k ≡ false → AreDistinct (xs ++ k ∷ [])
distinct_push [] k once none = (refl, tt)
distinct_push (x ∷ xs) k once none = elim (cases_Bool (eqb x k)) [
  | inl e ↦ absurd (false≢true (sym none ∙ ap (λ b. b || has xs k) e))
  | inr e ↦
      let rest : has xs k ≡ false = sym (ap (λ b. b || has xs k) e) ∙ none in
      (any_push xs k (eqb_flip k x ∙ e) once.0, distinct_push xs k once.1 rest)
]
  where
    any_push : (xs : List ℕ) (k : ℕ) → eqb k x ≡ false → has xs x ≡ false → has (xs ++ k ∷ []) x ≡ false
    any_push [] k e none = rw e refl
    any_push (y ∷ xs) k e none = elim (cases_Bool (eqb y x)) [
      | inl f ↦ absurd (false≢true (sym none ∙ ap (λ b. b || has xs x) f))
      | inr f ↦ rw f (any_push xs k e (sym (ap (λ b. b || has xs x) f) ∙ none))
    ]

distinct_front : (xs : List ℕ) (k : ℕ) → AreDistinct (xs ++ k ∷ []) → AreDistinct xs × (has xs k ≡ false)
distinct_front [] k once = (tt, refl)
distinct_front (x ∷ xs) k once =
    let rest : AreDistinct xs × (has xs k ≡ false) = distinct_front xs k once.1 in
    let both : (has xs x ≡ false) × (eqb k x ≡ false) = parts xs once.0 in
    ((both.0, rest.0), rw (eqb_flip x k, both.1) rest.1)
  where
    parts : (xs : List ℕ) → has (xs ++ k ∷ []) x ≡ false → (has xs x ≡ false) × (eqb k x ≡ false)
    parts [] e = elim (cases_Bool (eqb k x)) [ inl f ↦ absurd (false≢true (sym e ∙ ap (λ b. b || false) f)) | inr f ↦ (refl, f) ]
    parts (y ∷ xs) e = elim (cases_Bool (eqb y x)) [
      | inl f ↦ absurd (false≢true (sym e ∙ ap (λ b. b || has (xs ++ k ∷ []) x) f))
      | inr f ↦ (let r : (has xs x ≡ false) × (eqb k x ≡ false) = parts xs (sym (ap (λ b. b || has (xs ++ k ∷ []) x) f) ∙ e) in (rw f r.0, r.1))
    ]

or_none : (p : Option ℕ) (n : ℕ) → or_last p false n ≡ p
or_none None n = refl
or_none (Some i) n = refl

pub places_push : (m n : BTreeMap ℕ ℕ) (xs : List ℕ) (k : ℕ) → HasPlaces m xs → position (nat_eq k) xs ≡ None
    → Updates nat_cmp m n k (Some (length xs)) → HasPlaces n (xs ++ k ∷ [])
places_push m n xs k h absent up =
    record {
      places = λ q. up.0 q ∙ ap (λ (b : Bool). cond b (Some (length xs)) (get nat_cmp m q)) (eq_by_cmp k q) ∙ at q (eqb k q) refl ∙ sym (push (nat_eq q) xs k);
      once = distinct_push xs k h.once (has_place xs k ∙ ap is_some absent);
    }
  where
    at : (q : ℕ) (b : Bool) → eqb k q ≡ b → cond b (Some (length xs)) (get nat_cmp m q) ≡ or_last (position (nat_eq q) xs) (nat_eq q k) (length xs)
    at q true e =
        let same : k ≡ q = eqb-true k q e in
        sym (ap (λ (o : Option ℕ). or_last o (nat_eq q k) (length xs)) (ap (λ (j : ℕ). position (nat_eq j) xs) (sym same) ∙ absent)
        ∙ ap (λ (b : Bool). cond b (Some (length xs)) None) (eqb_flip q k ∙ e))
    at q false e = h.places q ∙ sym (ap (λ (b : Bool). or_last (position (nat_eq q) xs) b (length xs)) (eqb_flip q k ∙ e) ∙ or_none _ (length xs))

pub places_pop : (m n : BTreeMap ℕ ℕ) (xs : List ℕ) (k : ℕ) → HasPlaces m (xs ++ k ∷ []) → Updates nat_cmp m n k None → HasPlaces n xs
places_pop m n xs k h up =
    record {
      places = λ q. up.0 q ∙ ap (λ (b : Bool). cond b None (get nat_cmp m q)) (eq_by_cmp k q) ∙ at q (eqb k q) refl;
      once = (distinct_front xs k h.once).0;
    }
  where
    absent : (o : Option ℕ) → is_some o ≡ false → o ≡ None
    absent None e = refl
    absent (Some i) e = cc

    gone : position (nat_eq k) xs ≡ None
    gone = absent _ (sym (has_place xs k) ∙ (distinct_front xs k h.once).1)

    at : (q : ℕ) (b : Bool) → eqb k q ≡ b → cond b None (get nat_cmp m q) ≡ position (nat_eq q) xs
    at q true e = sym gone ∙ ap (λ (j : ℕ). position (nat_eq j) xs) (eqb-true k q e)
    at q false e =
        h.places q ∙ push (nat_eq q) xs k ∙ ap (λ (b : Bool). or_last (position (nat_eq q) xs) b (length xs)) (eqb_flip q k ∙ e) ∙ or_none _ (length xs)
