-- Sums over lists, and lists whose members are pairwise apart.
use Rattle.std.proofs.Common.{◌≡◌, ℕ, ◌+◌, ◌≤◌, Bool, true, false, cond, not, List, [], ◌∷◌, ◌++◌, refl, ap, ◌∙◌, inl, inr, arith}
use Rattle.std.specs.Prelude.{filter, flat_map, sum_by}
use Rattle.std.proofs.lemmas.Bool.{false_from_ne_true, not_from_false}
use Rattle.std.proofs.lemmas.List.Sums.{sum_by-cons}
use Rattle.sp_carry.proofs.Members.{IsIn, in_filter, in_filter_from, in_append, in_flat_map}

-- a sum by recursion on the list
abbrev pub sums : {A : Type 0} → (A → ℕ) → List A → ℕ
sums f [] = 0
sums f (x ∷ xs) = f x + sums f xs

pub sum_by_is : {A : Type 0} (f : A → ℕ) (xs : List A) → sum_by f xs ≡ sums f xs
sum_by_is f [] = refl
sum_by_is f (x ∷ xs) = sum_by-cons f x xs ∙ ap (λ (n : ℕ). f x + n) (sum_by_is f xs)

pub sums_split : {A : Type 0} (f : A → ℕ) (p : A → Bool) (xs : List A) → sums f (filter p xs) + sums f (filter (λ x. not (p x)) xs) ≡ sums f xs
sums_split f p [] = refl
sums_split {A} f p (x ∷ xs) = at (p x) (sums_split f p xs)
  where
    at : (b : Bool) → sums f (filter p xs) + sums f (filter (λ x. not (p x)) xs) ≡ sums f xs
        → sums f (cond b (x ∷ filter p xs) (filter p xs)) + sums f (cond (not b) (x ∷ filter (λ x. not (p x)) xs) (filter (λ x. not (p x)) xs)) ≡ f x + sums f xs
    at true e = omega arith
    at false e = omega arith

pub sums_member : {A : Type 0} (f : A → ℕ) (xs : List A) (x : A) → IsIn xs x → f x ≤ sums f xs
sums_member f [] x h = absurd h
sums_member f (y ∷ ys) x h =
    elim h [
      | inl same ↦ (let e : f y ≡ f x = ap f same in omega arith)
      | inr there ↦ (let r : f x ≤ sums f ys = sums_member f ys x there in omega arith)
    ]

pub sums_le : {A : Type 0} (f g : A → ℕ) (xs : List A) → ((x : A) → IsIn xs x → f x ≤ g x) → sums f xs ≤ sums g xs
sums_le f g [] h = omega arith
sums_le f g (x ∷ xs) h =
    let here : f x ≤ g x = h x (inl refl) in
    let rest : sums f xs ≤ sums g xs = sums_le f g xs (λ y there. h y (inr there)) in
    omega arith

pub sums-append : {A : Type 0} (f : A → ℕ) (xs ys : List A) → sums f (xs ++ ys) ≡ sums f xs + sums f ys
sums-append f [] ys = omega arith
sums-append f (x ∷ xs) ys = let r : sums f (xs ++ ys) ≡ sums f xs + sums f ys = sums-append f xs ys in omega arith

pub sums-flat_map : {A B : Type 0} (g : B → ℕ) (f : A → List B) (xs : List A) → sums g (flat_map f xs) ≡ sums (λ x. sums g (f x)) xs
sums-flat_map g f [] = refl
sums-flat_map g f (x ∷ xs) =
    let r : sums g (flat_map f xs) ≡ sums (λ x. sums g (f x)) xs = sums-flat_map g f xs in
    let s : sums g (f x ++ flat_map f xs) ≡ sums g (f x) + sums g (flat_map f xs) = sums-append g (f x) (flat_map f xs) in
    omega arith

-- the relation holds of each member and each later one
abbrev pub Pairwise : {A : Type 0} → (A → A → Type 0) → List A → Type 0
Pairwise R [] = Unit {0}
Pairwise R (x ∷ xs) = ((y : _) → IsIn xs y → R x y) × Pairwise R xs

pub pairwise-filter : {A : Type 0} (R : A → A → Type 0) (p : A → Bool) (xs : List A) → Pairwise R xs → Pairwise R (filter p xs)
pairwise-filter R p [] h = tt
pairwise-filter {A} R p (x ∷ xs) h = at (p x) (pairwise-filter R p xs h.1)
  where
    at : (b : Bool) → Pairwise R (filter p xs) → Pairwise R (cond b (x ∷ filter p xs) (filter p xs))
    at true rest = (λ y there. h.0 y (in_filter p xs y there).0, rest)
    at false rest = rest

pub pairwise-append : {A : Type 0} (R : A → A → Type 0) (xs ys : List A) → Pairwise R xs → Pairwise R ys
    → ((x y : A) → IsIn xs x → IsIn ys y → R x y) → Pairwise R (xs ++ ys)
pairwise-append R [] ys h k across = k
pairwise-append {A} R (x ∷ xs) ys h k across =
    (λ y there. side y there, pairwise-append R xs ys h.1 k (λ a b in_a in_b. across a b (inr in_a) in_b))
  where
    side : (y : A) → IsIn (xs ++ ys) y → R x y
    side y there = elim (in_append xs ys y there) [ inl a ↦ h.0 y a | inr b ↦ across x y (inl refl) b ]

pub pairwise-flat_map : {A B : Type 0} (R : B → B → Type 0) (f : A → List B) (xs : List A)
    → ((x : A) → IsIn xs x → Pairwise R (f x))
    → Pairwise (λ x y. (a b : B) → IsIn (f x) a → IsIn (f y) b → R a b) xs
    → Pairwise R (flat_map f xs)
pairwise-flat_map R f [] each apart = tt
pairwise-flat_map {A} {B} R f (x ∷ xs) each apart =
    pairwise-append R (f x) (flat_map f xs) (each x (inl refl)) (pairwise-flat_map R f xs (λ y there. each y (inr there)) apart.1)
    (λ a b in_a in_b. let r : (y : A) × IsIn xs y × IsIn (f y) b = in_flat_map f xs b in_b in apart.0 r.0 r.1 a b in_a r.2)

-- Each x has a partner that is no smaller, and no partner serves two: the sum of the partners' list is no smaller.
pub sums_of_partners : {X C : Type 0} (f : X → ℕ) (g : C → ℕ) (m : X → C → Bool) (xs : List X) (cs : List C)
    → Pairwise (λ x y. (c : C) → m x c ≡ true → m y c ≡ true → ⊥) xs
    → ((x : X) → IsIn xs x → (c : C) × IsIn cs c × (m x c ≡ true) × (f x ≤ g c))
    → sums f xs ≤ sums g cs
sums_of_partners f g m [] cs apart each = omega arith
sums_of_partners {X} {C} f g m (x ∷ xs) cs apart each =
    let here : (c : C) × IsIn cs c × (m x c ≡ true) × (f x ≤ g c) = each x (inl refl) in
    let part : sums g (filter (m x) cs) + sums g (filter (λ c. not (m x c)) cs) ≡ sums g cs = sums_split g (m x) cs in
    let most : g here.0 ≤ sums g (filter (m x) cs) = sums_member g (filter (m x) cs) here.0 (in_filter_from (m x) cs here.0 here.1 here.2) in
    let rest : sums f xs ≤ sums g (filter (λ c. not (m x c)) cs) =
    sums_of_partners f g m xs (filter (λ c. not (m x c)) cs) apart.1 (λ y there. later y there (each y (inr there))) in
    let least : f x ≤ g here.0 = here.3 in
    omega arith
  where
    later : (y : X) → IsIn xs y → (c : C) × IsIn cs c × (m y c ≡ true) × (f y ≤ g c) → (c : C) × IsIn (filter (λ c. not (m x c)) cs) c × (m y c ≡ true) × (f y ≤ g c)
    later y there r = (
      r.0,
      in_filter_from (λ c. not (m x c)) cs r.0 r.1
          (not_from_false (m x r.0) (false_from_ne_true (m x r.0) (λ h. apart.0 y there r.0 h r.2))),
      r.2,
      r.3,
    )
