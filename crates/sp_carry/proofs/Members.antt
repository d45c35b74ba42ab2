-- Members of lists, and tests on them.
use Rattle.std.proofs.Common.{◌≡◌, ℕ, zero, suc, ◌<◌, ◌⊎◌, Bool, true, false, cond, List, [], ◌∷◌, ◌++◌, length, map, subst, refl, sym, ap, ◌∙◌, inl, inr, arith}
use Rattle.std.specs.Prelude.{All, filter, flat_map, Contains, slice_index_or}
use Rattle.std.specs.List.{list_any, list_all}
use Rattle.std.proofs.lemmas.Bool.{or_cases, and_parts, false≢true, or_left, or_right, and_from}

-- x is a member
abbrev pub IsIn : {A : Type 0} → List A → A → Type 0
IsIn [] x = ⊥
IsIn (y ∷ ys) x = (y ≡ x) ⊎ IsIn ys x

pub in_from_contains : {A : Type 0} (xs : List A) (x : A) → Contains xs x → IsIn xs x
in_from_contains [] x h = absurd (omega (arith, h.1))
in_from_contains {A} (y ∷ ys) x h = at (in_from_contains ys x) h.0 h.1 h.2
  where
    at : (Contains ys x → IsIn ys x) → (k : ℕ) → k < length (y ∷ ys) → slice_index_or (y ∷ ys) k x ≡ x → IsIn (y ∷ ys) x
    at rest zero lt e = inl e
    at rest (suc k) lt e = inr (rest (k, omega arith, e))

pub contains_from_in : {A : Type 0} (xs : List A) (x : A) → IsIn xs x → Contains xs x
contains_from_in [] x h = absurd h
contains_from_in (y ∷ ys) x h =
    elim h [
      | inl e ↦ (0, omega arith, e)
      | inr there ↦ (let c : Contains ys x = contains_from_in ys x there in (suc c.0, omega (arith, c.1), c.2))
    ]

-- some member passes a test that finds one
pub member_of_any : {A : Type 0} (p : A → Bool) (xs : List A) → list_any p xs ≡ true → (x : A) × IsIn xs x × (p x ≡ true)
member_of_any p [] h = absurd (false≢true h)
member_of_any {A} p (x ∷ xs) h =
    elim (or_cases (p x) (list_any p xs) h) [
      | inl here ↦ (x, inl refl, here)
      | inr there ↦ (let r : (x : A) × IsIn xs x × (p x ≡ true) = member_of_any p xs there in (r.0, inr r.1, r.2))
    ]

pub any_of_member : {A : Type 0} (p : A → Bool) (xs : List A) (x : A) → IsIn xs x → p x ≡ true → list_any p xs ≡ true
any_of_member p [] x h e = absurd h
any_of_member p (y ∷ ys) x h e =
    elim h [
      | inl same ↦ or_left (p y) (list_any p ys) (ap p same ∙ e)
      | inr there ↦ or_right (p y) (list_any p ys) (any_of_member p ys x there e)
    ]

pub member_of_all : {A : Type 0} (p : A → Bool) (xs : List A) (x : A) → list_all p xs ≡ true → IsIn xs x → p x ≡ true
member_of_all p [] x h here = absurd here
member_of_all p (y ∷ ys) x h here =
    elim here [
      | inl same ↦ sym (ap p same) ∙ (and_parts (p y) (list_all p ys) h).0
      | inr there ↦ member_of_all p ys x (and_parts (p y) (list_all p ys) h).1 there
    ]

pub all_of_members : {A : Type 0} (p : A → Bool) (xs : List A) → ((x : A) → IsIn xs x → p x ≡ true) → list_all p xs ≡ true
all_of_members p [] h = refl
all_of_members p (y ∷ ys) h = and_from (p y) (list_all p ys) (h y (inl refl)) (all_of_members p ys (λ x there. h x (inr there)))

pub any_agrees : {A : Type 0} (p q : A → Bool) (xs : List A) → ((x : A) → IsIn xs x → p x ≡ q x) → list_any p xs ≡ list_any q xs
any_agrees p q [] h = refl
any_agrees p q (x ∷ xs) h =
    let here : p x ≡ q x = h x (inl refl) in
    let rest : list_any p xs ≡ list_any q xs = any_agrees p q xs (λ y there. h y (inr there)) in
    cc

pub all_agrees : {A : Type 0} (p q : A → Bool) (xs : List A) → ((x : A) → IsIn xs x → p x ≡ q x) → list_all p xs ≡ list_all q xs
all_agrees p q [] h = refl
all_agrees p q (x ∷ xs) h =
    let here : p x ≡ q x = h x (inl refl) in
    let rest : list_all p xs ≡ list_all q xs = all_agrees p q xs (λ y there. h y (inr there)) in
    cc

pub in_append : {A : Type 0} (xs ys : List A) (x : A) → IsIn (xs ++ ys) x → IsIn xs x ⊎ IsIn ys x
in_append [] ys x h = inr h
in_append (y ∷ xs) ys x h =
    elim h [
      | inl e ↦ inl (inl e)
      | inr there ↦ elim (in_append xs ys x there) [ inl a ↦ inl (inr a) | inr b ↦ inr b ]
    ]

pub in_append_left : {A : Type 0} (xs ys : List A) (x : A) → IsIn xs x → IsIn (xs ++ ys) x
in_append_left [] ys x h = absurd h
in_append_left (y ∷ xs) ys x h = elim h [ inl e ↦ inl e | inr there ↦ inr (in_append_left xs ys x there) ]

pub in_append_right : {A : Type 0} (xs ys : List A) (x : A) → IsIn ys x → IsIn (xs ++ ys) x
in_append_right [] ys x h = h
in_append_right (y ∷ xs) ys x h = inr (in_append_right xs ys x h)

pub in_flat_map : {A B : Type 0} (f : A → List B) (xs : List A) (y : B) → IsIn (flat_map f xs) y → (x : A) × IsIn xs x × IsIn (f x) y
in_flat_map f [] y h = absurd h
in_flat_map {A} {B} f (x ∷ xs) y h =
    elim (in_append (f x) (flat_map f xs) y h) [
      | inl here ↦ (x, inl refl, here)
      | inr there ↦ (let r : (x : A) × IsIn xs x × IsIn (f x) y = in_flat_map f xs y there in (r.0, inr r.1, r.2))
    ]

pub in_flat_map_from : {A B : Type 0} (f : A → List B) (xs : List A) (x : A) (y : B) → IsIn xs x → IsIn (f x) y → IsIn (flat_map f xs) y
in_flat_map_from f [] x y h e = absurd h
in_flat_map_from {A} {B} f (z ∷ xs) x y h e =
    elim h [
      | inl same ↦ in_append_left (f z) (flat_map f xs) y (let P : A → Type 0 = λ v. IsIn (f v) y in rw same e)
      | inr there ↦ in_append_right (f z) (flat_map f xs) y (in_flat_map_from f xs x y there e)
    ]

pub in_filter : {A : Type 0} (p : A → Bool) (xs : List A) (x : A) → IsIn (filter p xs) x → IsIn xs x × (p x ≡ true)
in_filter p [] x h = absurd h
in_filter {A} p (y ∷ ys) x h = at (in_filter p ys x) (p y) refl h
  where
    at : (IsIn (filter p ys) x → IsIn ys x × (p x ≡ true)) → (b : Bool) → p y ≡ b → IsIn (cond b (y ∷ filter p ys) (filter p ys)) x → IsIn (y ∷ ys) x × (p x ≡ true)
    at rest true e h =
        elim h [
          | inl same ↦ (inl same, sym (ap p same) ∙ e)
          | inr there ↦ (inr (rest there).0, (rest there).1)
        ]
    at rest false e h = (inr (rest h).0, (rest h).1)

pub in_filter_from : {A : Type 0} (p : A → Bool) (xs : List A) (x : A) → IsIn xs x → p x ≡ true → IsIn (filter p xs) x
in_filter_from p [] x h e = absurd h
in_filter_from {A} p (y ∷ ys) x h e = at (λ there. in_filter_from p ys x there e) (p y) refl h
  where
    at : (IsIn ys x → IsIn (filter p ys) x) → (b : Bool) → p y ≡ b → IsIn (y ∷ ys) x → IsIn (cond b (y ∷ filter p ys) (filter p ys)) x
    at rest true f h = elim h [ inl same ↦ inl same | inr there ↦ inr (rest there) ]
    at rest false f h =
        elim h [
          | inl same ↦ absurd (false≢true (sym f ∙ ap p same ∙ e))
          | inr there ↦ rest there
        ]

pub in_map : {A B : Type 0} (f : A → B) (xs : List A) (y : B) → IsIn (map f xs) y → (x : A) × IsIn xs x × (f x ≡ y)
in_map f [] y h = absurd h
in_map {A} {B} f (x ∷ xs) y h =
    elim h [
      | inl here ↦ (x, inl refl, here)
      | inr there ↦ (let r : (x : A) × IsIn xs x × (f x ≡ y) = in_map f xs y there in (r.0, inr r.1, r.2))
    ]

pub in_map_from : {A B : Type 0} (f : A → B) (xs : List A) (x : A) → IsIn xs x → IsIn (map f xs) (f x)
in_map_from f [] x h = absurd h
in_map_from f (y ∷ ys) x h = elim h [ inl same ↦ inl (ap f same) | inr there ↦ inr (in_map_from f ys x there) ]

-- what All says holds of each member
pub member_meets : {A : Type 0} (P : A → Type 0) (xs : List A) (x : A) → All P xs → IsIn xs x → P x
member_meets P [] x all h = absurd h
member_meets P (y ∷ ys) x all h =
    elim h [
      | inl same ↦ subst P same (all 0 y (omega arith))
      | inr there ↦ member_meets P ys x (λ k d lt. all (suc k) d (omega (arith, lt))) there
    ]

-- two tests with the same answer
pub bool_same : (a b : Bool) → (a ≡ true → b ≡ true) → (b ≡ true → a ≡ true) → a ≡ b
bool_same true b f g = sym (f refl)
bool_same false true f g = absurd (false≢true (g refl))
bool_same false false f g = refl

-- what stands at a place is a member
pub list_in : {A : Type 0} (xs : List A) (n : ℕ) (d : A) → n < length xs → IsIn xs (slice_index_or xs n d)
list_in [] n d lt = absurd (omega (arith, lt))
list_in (x ∷ xs) zero d lt = inl refl
list_in (x ∷ xs) (suc n) d lt = inr (list_in xs n d (omega (arith, lt)))
