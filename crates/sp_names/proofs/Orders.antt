-- Keys in the order of naming, one after another.
use Rattle.std.proofs.Common.{rules, tests, ◌≡◌, ℕ, suc, ◌+◌, ◌<◌, Bool, ◌||◌, cond, List, [], ◌∷◌, ◌++◌, append_assoc, length, map, Some, take, get_or, inl, inr, refl, sym, ap, ap₂, ◌∙◌, arith}
use Rattle.std.specs.Prelude.{filter, nat_eq, not, option_map, slice_get}
use Rattle.std.specs.List.{list_any}
use Rattle.std.specs.Ordering.{is_eq, nat_cmp}
use Rattle.std.proofs.Math.Seq.{take-suc}
use Rattle.std.proofs.lemmas.Bool.{cases_Bool, eq-eqb, eqb-true, false≢true, ne_eqb}
use Rattle.std.proofs.lemmas.Option.{get_or_from_slice_get, slice_get-map, slice_get_within}
use Rattle.sp_names.specs.Labels.{by_naming, in_order, Label}

-- one more element before a filter
filter_push : {K : Type 0} (p : K → Bool) (xs : List K) (x : K) → filter p (xs ++ x ∷ []) ≡ filter p xs ++ cond (p x) (x ∷ []) []
filter_push p [] x = elim (cases_Bool (p x)) [ inl e ↦ rw e refl | inr e ↦ rw e refl ]
filter_push p (y ∷ ys) x = elim (cases_Bool (p y)) [
  | inl e ↦ rw e (ap (λ zs. y ∷ zs) (filter_push p ys x))
  | inr e ↦ rw e (filter_push p ys x)
]

-- the next of a list is looked at
pub next_looked : {K : Type 0} (p : K → Bool) (all start before now : List K) (i : ℕ) (x : K) (wanted : Bool) → before ≡ start ++ filter p (take i all) → i < length all → x ≡ get_or all i x
    → wanted ≡ p x → now ≡ before ++ cond wanted (x ∷ []) [] → now ≡ start ++ filter p (take (i + 1) all)
next_looked {K} p all start before now i x wanted are le is test e =
    let taken : take (i + 1) all ≡ take i all ++ x ∷ [] =
    ap (λ (n : ℕ). take n all) (let s : i + 1 ≡ suc i = omega arith in s) ∙ take-suc all i x le ∙ ap (λ (k : K). take i all ++ k ∷ []) (sym is) in
    e ∙ ap (λ (l : List K). l ++ cond wanted (x ∷ []) []) are ∙ append_assoc start (filter p (take i all)) (cond wanted (x ∷ []) [])
    ∙ ap (λ (b : Bool). start ++ (filter p (take i all) ++ cond b (x ∷ []) [])) test
    ∙ ap (λ (l : List K). start ++ l) (sym (filter_push p (take i all) x) ∙ sym (ap (filter p) taken))

-- the key at a place of the labels
pub key_within : {K X : Type 0} (labels : List (K × X)) (i : ℕ) (key : K) → option_map (λ (label : K × X). label.0) (slice_get labels i) ≡ Some key
    → (i < length (map (λ (label : K × X). label.0) labels)) × (key ≡ get_or (map (λ (label : K × X). label.0) labels) i key)
key_within {K} {X} labels i key h =
    let at : slice_get (map (λ (label : K × X). label.0) labels) i ≡ Some key = slice_get-map (λ (label : K × X). label.0) labels i ∙ h in
    (slice_get_within (map (λ (label : K × X). label.0) labels) i key at, sym (get_or_from_slice_get (map (λ (label : K × X). label.0) labels) i key key at))

-- ---- keys that are seen as numbers

-- numbers are equal where they compare so
eq_by_cmp : (x y : ℕ) → is_eq (nat_cmp x y) ≡ nat_eq x y
eq_by_cmp x y = search (rules, tests)

filter_alike : (p q : ℕ → Bool) → ((x : ℕ) → p x ≡ q x) → (xs : List ℕ) → filter p xs ≡ filter q xs
filter_alike p q same [] = refl
filter_alike p q same (x ∷ xs) =
    ap (λ (b : Bool). cond b (x ∷ filter p xs) (filter p xs)) (same x)
    ∙ ap (λ (l : List ℕ). cond (q x) (x ∷ l) l) (filter_alike p q same xs)

among_alike : (ids : List ℕ) (id : ℕ) → list_any (λ (other : ℕ). is_eq (nat_cmp other id)) ids ≡ list_any (λ (other : ℕ). nat_eq other id) ids
among_alike [] id = refl
among_alike (other ∷ ids) id = ap₂ (λ (a b : Bool). a || b) (eq_by_cmp other id) (among_alike ids id)

flip : (x y : ℕ) → nat_eq x y ≡ nat_eq y x
flip x y = elim (cases_Bool (nat_eq x y)) [
  | inl e ↦ e ∙ sym (eq-eqb y x (sym (eqb-true x y e)))
  | inr e ↦ e ∙ sym (ne_eqb y x (λ same. false≢true (sym e ∙ eq-eqb x y (sym same))))
]

named_alike : (labels : List Label) (id : ℕ) → list_any (λ (label : Label). is_eq (nat_cmp id label.0)) labels ≡ list_any (λ (other : ℕ). nat_eq other id) (map (λ (label : Label). label.0) labels)
named_alike [] id = refl
named_alike (label ∷ labels) id = ap₂ (λ (a b : Bool). a || b) (eq_by_cmp id label.0 ∙ flip id label.0) (named_alike labels id)

pub as_numbers : (labels : List Label) (ids : List ℕ) → by_naming (λ x y. is_eq (nat_cmp x y)) labels ids ≡ in_order labels ids
unfolding in_order
as_numbers labels ids =
    ap₂ (λ (l r : List ℕ). l ++ r)
    (filter_alike _ _ (among_alike ids) (map (λ (label : Label). label.0) labels))
    (filter_alike _ _ (λ id. ap not (named_alike labels id)) ids)
