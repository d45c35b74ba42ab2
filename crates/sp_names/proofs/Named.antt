-- The name of a key is that at its place, and naming an id leaves each id with one name.
use Rattle.std.proofs.Common.{rules, tests, ◌≡◌, ℕ, suc, ◌+◌, ◌-◌, ◌≤◌, ◌||◌, Bool, false, cond, List, [], ◌∷◌, ◌++◌, length, Some, None, Result, Ok, Err, OnErr, position, subst, refl, sym, ap, ◌∙◌, inl, inr, arith}
use Rattle.std.specs.Prelude.{OnOk, if◌then◌else◌, nat_eq, option_map, slice_get}
use Rattle.std.specs.List.{list_any, position_from}
use Rattle.std.specs.Map.{lookup}
use Rattle.std.specs.Ordering.{is_eq, nat_cmp}
use Rattle.std.proofs.lemmas.Bool.{cases_Bool, false≢true}
use Rattle.std.proofs.lemmas.Iterator.Adapters.{position_from-zero}
use Rattle.std.proofs.lemmas.List.Elements.{All-push}
use Rattle.sp_names.specs.Labels.{AreLabels, AreNamedOnce, IsNameLength, Label, with_key, with_label}

-- ---- the name at the place of a key

module _ {K X : Type 0} (test : K → Bool) where
  named_from : (labels : List (K × X)) (i place : ℕ) → position_from (λ (label : K × X). test label.0) i labels ≡ Some place
      → (i ≤ place) × (option_map (λ (label : K × X). label.1) (slice_get labels (place - i)) ≡ lookup test labels)
  named_from [] i place at = cc
  named_from (first ∷ labels) i place at = elim (cases_Bool (test first.0)) [
    | inl e ↦
        let here : Some i ≡ Some place = sym (ap (λ (b : Bool). cond b (Some i) (position_from (λ (label : K × X). test label.0) (i + 1) labels)) e) ∙ at in
        let same : i ≡ place = some_same here in
        let zero : place - i ≡ 0 = omega arith in
        (omega arith, rw (zero, e) refl)
    | inr e ↦
        let rest = named_from labels (i + 1) place (sym (ap (λ (b : Bool). cond b (Some i) (position_from (λ (label : K × X). test label.0) (i + 1) labels)) e) ∙ at) in
        let low = rest.0 in
        let next : place - i ≡ suc (place - (i + 1)) = omega arith in
        (omega arith, rw (next, e) rest.1)
  ]
    where
      some_same : {a b : ℕ} → Some a ≡ Some b → a ≡ b
      some_same e = cc

  pub name_at : (labels : List (K × X)) (place : ℕ) (label : K × X) → Some place ≡ position (λ (label : K × X). test label.0) labels → slice_get labels place ≡ Some label
      → Some label.1 ≡ lookup test labels
  name_at labels place label at there =
      let found = named_from labels 0 place (sym (position_from-zero (λ (label : K × X). test label.0) labels) ∙ sym at) in
      let zero : place - 0 ≡ place = omega arith in
      sym (ap (option_map (λ (l : K × X). l.1)) (ap (slice_get labels) zero ∙ there)) ∙ found.1

  none_from : (labels : List (K × X)) (i : ℕ) → position_from (λ (label : K × X). test label.0) i labels ≡ None → None ≡ lookup test labels
  none_from [] i at = refl
  none_from (first ∷ labels) i at = elim (cases_Bool (test first.0)) [
    | inl e ↦ (let here : Some i ≡ None = sym (ap (λ (b : Bool). cond b (Some i) (position_from (λ (label : K × X). test label.0) (i + 1) labels)) e) ∙ at in cc)
    | inr e ↦ rw e (none_from labels (i + 1) (sym (ap (λ (b : Bool). cond b (Some i) (position_from (λ (label : K × X). test label.0) (i + 1) labels)) e) ∙ at))
  ]

  pub no_name : (labels : List (K × X)) → None ≡ position (λ (label : K × X). test label.0) labels → None ≡ lookup test labels
  no_name labels at = none_from labels 0 (sym (position_from-zero (λ (label : K × X). test label.0) labels) ∙ sym at)

-- ---- what naming an id leaves

-- numbers are equal where they compare so
eq_by_cmp : (x y : ℕ) → is_eq (nat_cmp x y) ≡ nat_eq x y
eq_by_cmp x y = search (rules, tests)

any_by_cmp : (labels : List Label) (id : ℕ) → list_any (λ (label : Label). is_eq (nat_cmp id label.0)) labels ≡ list_any (λ (label : Label). nat_eq id label.0) labels
any_by_cmp [] id = refl
any_by_cmp (first ∷ labels) id =
    ap (λ (b : Bool). b || list_any (λ (label : Label). is_eq (nat_cmp id label.0)) labels) (eq_by_cmp id first.0)
    ∙ ap (λ (b : Bool). nat_eq id first.0 || b) (any_by_cmp labels id)

any_push : (p : Label → Bool) (labels : List Label) (label : Label) → list_any p labels ≡ false → p label ≡ false → list_any p (labels ++ label ∷ []) ≡ false
any_push p [] label none other = rw other refl
any_push p (first ∷ labels) label none other = elim (cases_Bool (p first)) [
  | inl e ↦ absurd (false≢true (sym none ∙ ap (λ b. b || list_any p labels) e))
  | inr e ↦ rw e (any_push p labels label (sym (ap (λ b. b || list_any p labels) e) ∙ none) other)
]

-- one more label names no id twice
once_push : (labels : List Label) (id : ℕ) (name : List ℕ) → AreNamedOnce labels → list_any (λ (label : Label). nat_eq id label.0) labels ≡ false → AreNamedOnce (labels ++ (id, name) ∷ [])
once_push [] id name once none = (refl, tt)
once_push (label ∷ labels) id name once none = elim (cases_Bool (nat_eq id label.0)) [
  | inl e ↦ absurd (false≢true (sym none ∙ ap (λ b. b || list_any (λ (other : Label). nat_eq id other.0) labels) e))
  | inr e ↦
      let rest : list_any (λ (other : Label). nat_eq id other.0) labels ≡ false = sym (ap (λ b. b || list_any (λ (other : Label). nat_eq id other.0) labels) e) ∙ none in
      (any_push (λ (other : Label). nat_eq other.0 label.0) labels (id, name) once.0 e, once_push labels id name once.1 rest)
]

named_once : (labels : List Label) (id : ℕ) (name : List ℕ) → AreLabels labels → IsNameLength (length name) → AreLabels (with_label labels id name)
named_once labels id name are fits = elim (cases_Bool (list_any (λ (label : Label). nat_eq id label.0) labels)) [
  | inl e ↦ rw e are
  | inr e ↦ rw e (record { once = once_push labels id name are.once e; short = All-push (λ (label : Label). IsNameLength (length label.1)) labels (id, name) are.short fits })
]

pub labels_after : {T E : Type 0} (r : Result T E) (old new : List Label) (id : ℕ) (name text : List ℕ) → AreLabels old → text ≡ name → 1 ≤ length text → length text ≤ 64
    → OnOk r (new ≡ with_key (λ x y. is_eq (nat_cmp x y)) old id name) → OnErr r (new ≡ old) → AreLabels new
labels_after (Err e) old new id name text are same some short is back = subst (λ (l : List Label). AreLabels l) (sym back) are
labels_after (Ok x) old new id name text are same some short is back =
    let fits : IsNameLength (length name) = record { some = subst (λ (l : List ℕ). 1 ≤ length l) same some; short = subst (λ (l : List ℕ). length l ≤ 64) same short } in
    subst (λ (l : List Label). AreLabels l) (sym (is ∙ ap (λ (b : Bool). if b then old else old ++ (id, name) ∷ []) (any_by_cmp old id))) (named_once old id name are fits)
