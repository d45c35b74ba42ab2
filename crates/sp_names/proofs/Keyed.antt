-- A list with one more key, and the map of places with one more, belong together again.
use Rattle.std.proofs.Common.{◌≡◌, ℕ, suc, ◌+◌, Bool, true, false, cond, List, [], ◌∷◌, ◌++◌, length, Option, Some, None, position, refl, sym, ap, ◌∙◌, inl, inr, arith}
use Rattle.std.specs.Prelude.{is_some}
use Rattle.std.specs.BTreeMap.{BTreeMap, get, Updates}
use Rattle.std.specs.Cmp.{IsTotalOrder}
use Rattle.std.specs.List.{list_any, position_from}
use Rattle.std.specs.Ordering.{is_eq, ordering_reverse}
use Rattle.std.specs.declared.cmp.Ordering.{Ordering}
use Rattle.std.specs.declared.cmp.Ordering.TheVariants.{Less, Equal, Greater}
use Rattle.std.proofs.lemmas.Bool.{cases_Bool}
use Rattle.std.proofs.lemmas.Iterator.Adapters.{position_from-zero}
use Rattle.sp_names.specs.Labels.{with_key}
use Rattle.sp_names.specs.Places.{HasPlaces}

-- the place in a list with one more element
abbrev or_last : Option ℕ → Bool → ℕ → Option ℕ
or_last None b n = cond b (Some n) None
or_last (Some i) b n = Some i

push_from : {X : Type 0} (test : X → Bool) (i : ℕ) (xs : List X) (y : X) → position_from test i (xs ++ y ∷ []) ≡ or_last (position_from test i xs) (test y) (i + length xs)
push_from test i [] y = let e : i + 0 ≡ i = omega arith in rw e refl
push_from test i (x ∷ xs) y = elim (cases_Bool (test x)) [
  | inl e ↦ rw (e) refl
  | inr e ↦ (let next : i + 1 + length xs ≡ i + suc (length xs) = omega arith in rw (e, push_from test (i + 1) xs y, next) refl)
]

push : {X : Type 0} (test : X → Bool) (xs : List X) (y : X) → position test (xs ++ y ∷ []) ≡ or_last (position test xs) (test y) (length xs)
push {X} test xs y =
    let zero : 0 + length xs ≡ length xs = omega arith in
    position_from-zero test (xs ++ y ∷ []) ∙ push_from test 0 xs y ∙ ap (or_last (position_from test 0 xs) (test y)) zero ∙ sym (ap (λ (o : Option ℕ). or_last o (test y) (length xs)) (position_from-zero test xs))

-- a list has an element that passes where it has a place for it
any_from : {X : Type 0} (test : X → Bool) (i : ℕ) (xs : List X) → list_any test xs ≡ is_some (position_from test i xs)
any_from test i [] = refl
any_from test i (x ∷ xs) = elim (cases_Bool (test x)) [
  | inl e ↦ rw e refl
  | inr e ↦ rw e (any_from test (i + 1) xs)
]

pub any_at : {X : Type 0} (test : X → Bool) (xs : List X) → list_any test xs ≡ is_some (position test xs)
any_at test xs = any_from test 0 xs ∙ ap is_some (sym (position_from-zero test xs))

is_Equal : (r : Ordering) → is_eq r ≡ true → r ≡ Equal
is_Equal Less e = cc
is_Equal Equal e = refl
is_Equal Greater e = cc

flip : (r : Ordering) → is_eq (ordering_reverse r) ≡ is_eq r
flip Less = refl
flip Equal = refl
flip Greater = refl

flipped : {K : Type 0} {R : K → K → Ordering} (o : IsTotalOrder R) (k q : K) → is_eq (R q k) ≡ is_eq (R k q)
flipped {R = R} o k q = ap is_eq (o.antisymm q k) ∙ flip (R k q)

or_none : (p : Option ℕ) (n : ℕ) → or_last p false n ≡ p
or_none None n = refl
or_none (Some i) n = refl

module _ {K X : Type 0} {R : K → K → Ordering} (o : IsTotalOrder R) where
  -- equal keys have the same place
  same_from : (k q : K) (xs : List (K × X)) (i : ℕ) → R k q ≡ Equal → position_from (λ (e : K × X). is_eq (R k e.0)) i xs ≡ position_from (λ (e : K × X). is_eq (R q e.0)) i xs
  same_from k q [] i e = refl
  same_from k q (x ∷ xs) i e = rw (o.congr k q x.0 e, same_from k q xs (i + 1) e) refl

  same_place : (k q : K) (xs : List (K × X)) → R k q ≡ Equal → position (λ (e : K × X). is_eq (R k e.0)) xs ≡ position (λ (e : K × X). is_eq (R q e.0)) xs
  same_place k q xs e = position_from-zero (λ (x : K × X). is_eq (R k x.0)) xs ∙ same_from k q xs 0 e ∙ sym (position_from-zero (λ (x : K × X). is_eq (R q x.0)) xs)

  pub places_push : (m n : BTreeMap K ℕ) (xs : List (K × X)) (k : K) (name : X) → HasPlaces R m xs → get R m k ≡ None → Updates R m n k (Some (length xs)) → HasPlaces R n (xs ++ (k, name) ∷ [])
  places_push m n xs k name h absent up = λ q.
      let there = push (λ (e : K × X). is_eq (R q e.0)) xs (k, name) in
      elim (cases_Bool (is_eq (R k q))) [
        | inl e ↦ (
            let none : position (λ (x : K × X). is_eq (R q x.0)) xs ≡ None = sym (same_place k q xs (is_Equal (R k q) e)) ∙ sym (h k) ∙ absent in
            let back : is_eq (R q k) ≡ true = flipped o k q ∙ e in
            let last : or_last (position (λ (x : K × X). is_eq (R q x.0)) xs) (is_eq (R q k)) (length xs) ≡ Some (length xs) = rw (none, back) refl in
            let new : get R n q ≡ Some (length xs) = up.0 q ∙ ap (λ (b : Bool). cond b (Some (length xs)) (get R m q)) e in
            new ∙ sym last ∙ sym there)
        | inr e ↦ (
            let back : is_eq (R q k) ≡ false = flipped o k q ∙ e in
            let last : or_last (position (λ (x : K × X). is_eq (R q x.0)) xs) (is_eq (R q k)) (length xs) ≡ position (λ (x : K × X). is_eq (R q x.0)) xs = ap (λ (b : Bool). or_last (position (λ (x : K × X). is_eq (R q x.0)) xs) b (length xs)) back ∙ or_none _ (length xs) in
            let new : get R n q ≡ get R m q = up.0 q ∙ ap (λ (b : Bool). cond b (Some (length xs)) (get R m q)) e in
            new ∙ h q ∙ sym last ∙ sym there)
      ]

-- a key that has a name keeps it
pub kept_key : {K X : Type 0} (same : K → K → Bool) (xs : List (K × X)) (k : K) (name : X) → is_some (position (λ (e : K × X). same k e.0) xs) ≡ true → xs ≡ with_key same xs k name
kept_key {K} {X} same xs k name there = rw (any_at (λ (e : K × X). same k e.0) xs, there) refl

-- another comes last
pub new_key : {K X : Type 0} (same : K → K → Bool) (xs : List (K × X)) (k : K) (name : X) → is_some (position (λ (e : K × X). same k e.0) xs) ≡ false → xs ++ (k, name) ∷ [] ≡ with_key same xs k name
new_key {K} {X} same xs k name none = rw (any_at (λ (e : K × X). same k e.0) xs, none) refl
