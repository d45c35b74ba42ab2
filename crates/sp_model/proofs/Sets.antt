-- Membership tests, and sums of signed numbers.
use Rattle.std.proofs.Common.{◌≡◌, ℕ, zero, suc, Bool, true, false, cond, List, [], ◌∷◌, map, take, ◌||◌, refl, sym, ap, ◌∙◌, inl, inr, eqb}
use Rattle.std.specs.Prelude.{filter, ℤ}
use Rattle.std.specs.List.{list_any, list_all, find}
use Rattle.std.proofs.lemmas.Bool.{or_cases, or_parts, and_parts, eqb-true, eq-eqb, false≢true, or_left, or_right, and_from}
use Rattle.sp_model.specs.Graph.{AreDistinct, Block, has, parents_or_none}
use Rattle.sp_model.specs.Votes.{total}

-- some member passes a test that finds one
pub any_some : (p : ℕ → Bool) (xs : List ℕ) → list_any p xs ≡ true → (x : ℕ) × (has xs x ≡ true) × (p x ≡ true)
any_some p [] h = absurd (false≢true h)
any_some p (x ∷ xs) h =
    elim (or_cases (p x) (list_any p xs) h) [
      | inl here ↦ (x, or_left (eqb x x) (has xs x) (eq-eqb x x refl), here)
      | inr there ↦ (let r : (x : ℕ) × (has xs x ≡ true) × (p x ≡ true) = any_some p xs there in (r.0, or_right (eqb x r.0) (has xs r.0) r.1, r.2))
    ]

pub some_any : (p : ℕ → Bool) (xs : List ℕ) (x : ℕ) → has xs x ≡ true → p x ≡ true → list_any p xs ≡ true
some_any p [] x h passes = absurd (false≢true h)
some_any p (y ∷ ys) x h passes =
    elim (or_cases (eqb y x) (has ys x) h) [
      | inl same ↦ or_left (p y) (list_any p ys) (ap p (eqb-true y x same) ∙ passes)
      | inr there ↦ or_right (p y) (list_any p ys) (some_any p ys x there passes)
    ]

pub all_at : (p : ℕ → Bool) (xs : List ℕ) (x : ℕ) → list_all p xs ≡ true → has xs x ≡ true → p x ≡ true
all_at p [] x h here = absurd (false≢true here)
all_at p (y ∷ ys) x h here =
    elim (or_cases (eqb y x) (has ys x) here) [
      | inl same ↦ ap p (sym (eqb-true y x same)) ∙ (and_parts (p y) (list_all p ys) h).0
      | inr there ↦ all_at p ys x (and_parts (p y) (list_all p ys) h).1 there
    ]

pub all_from : (p : ℕ → Bool) (xs : List ℕ) → ((x : ℕ) → has xs x ≡ true → p x ≡ true) → list_all p xs ≡ true
all_from p [] h = refl
all_from p (y ∷ ys) h =
    and_from (p y) (list_all p ys) (h y (or_left (eqb y y) (has ys y) (eq-eqb y y refl)))
    (all_from p ys (λ x there. h x (or_right (eqb y x) (has ys x) there)))

pub has-filter : (p : ℕ → Bool) (xs : List ℕ) (x : ℕ) → has (filter p xs) x ≡ true → (has xs x ≡ true) × (p x ≡ true)
has-filter p [] x h = absurd (false≢true h)
has-filter p (y ∷ ys) x h = has-filter_at p y ys x (p y) refl h (has-filter p ys x)
  where
    has-filter_at : (p : ℕ → Bool) (y : ℕ) (ys : List ℕ) (x : ℕ) (b : Bool) → p y ≡ b
        → has (cond b (y ∷ filter p ys) (filter p ys)) x ≡ true
        → (has (filter p ys) x ≡ true → (has ys x ≡ true) × (p x ≡ true))
        → (has (y ∷ ys) x ≡ true) × (p x ≡ true)
    has-filter_at p y ys x true e h rest =
        elim (or_cases (eqb y x) (has (filter p ys) x) h) [
          | inl same ↦ (or_left (eqb y x) (has ys x) same, ap p (sym (eqb-true y x same)) ∙ e)
          | inr there ↦ (or_right (eqb y x) (has ys x) (rest there).0, (rest there).1)
        ]
    has-filter_at p y ys x false e h rest = (or_right (eqb y x) (has ys x) (rest h).0, (rest h).1)

pub has-filter_from : (p : ℕ → Bool) (xs : List ℕ) (x : ℕ) → has xs x ≡ true → p x ≡ true → has (filter p xs) x ≡ true
has-filter_from p [] x h passes = h
has-filter_from p (y ∷ ys) x h passes =
    elim (or_cases (eqb y x) (has ys x) h) [
      | inl same ↦ from_here p y ys x (p y) refl same passes
      | inr there ↦ from_there p y ys x (p y) (has-filter_from p ys x there passes)
    ]
  where
    from_here : (p : ℕ → Bool) (y : ℕ) (ys : List ℕ) (x : ℕ) (b : Bool) → p y ≡ b → eqb y x ≡ true → p x ≡ true
        → has (cond b (y ∷ filter p ys) (filter p ys)) x ≡ true
    from_here p y ys x true e same passes = or_left (eqb y x) (has (filter p ys) x) same
    from_here p y ys x false e same passes = absurd (false≢true (sym e ∙ ap p (eqb-true y x same) ∙ passes))

    from_there : (p : ℕ → Bool) (y : ℕ) (ys : List ℕ) (x : ℕ) (b : Bool) → has (filter p ys) x ≡ true
        → has (cond b (y ∷ filter p ys) (filter p ys)) x ≡ true
    from_there p y ys x true there = or_right (eqb y x) (has (filter p ys) x) there
    from_there p y ys x false there = there

pub total_same : (f g : ℕ → ℤ) (xs : List ℕ) → ((x : ℕ) → has xs x ≡ true → f x ≡ g x) → total f xs ≡ total g xs
total_same f g [] h = refl
total_same f g (x ∷ xs) h =
    let here : f x ≡ g x = h x (or_left (eqb x x) (has xs x) (eq-eqb x x refl)) in
    let rest : total f xs ≡ total g xs = total_same f g xs (λ y there. h y (or_right (eqb x y) (has xs y) there)) in
    cc

pub any_same : (f g : ℕ → Bool) (xs : List ℕ) → ((x : ℕ) → has xs x ≡ true → f x ≡ g x) → list_any f xs ≡ list_any g xs
any_same f g [] h = refl
any_same f g (x ∷ xs) h =
    let here : f x ≡ g x = h x (or_left (eqb x x) (has xs x) (eq-eqb x x refl)) in
    let rest : list_any f xs ≡ list_any g xs = any_same f g xs (λ y there. h y (or_right (eqb x y) (has xs y) there)) in
    cc

-- a key that isn't there has no parents
pub no_parents : (blocks : List Block) (k : ℕ) → has (map (λ (b : Block). b.key) blocks) k ≡ false → parents_or_none (find (λ b. eqb b.key k) blocks) ≡ []
no_parents [] k h = refl
no_parents (b ∷ blocks) k h =
    let parts : (eqb b.key k ≡ false) × (has (map (λ (b : Block). b.key) blocks) k ≡ false) = or_parts (eqb b.key k) (has (map (λ (b : Block). b.key) blocks) k) h in
    rw parts.0 (no_parents blocks k parts.1)

-- two truth values of which each follows from the other
pub same_truth : (p q : Bool) → (p ≡ true → q ≡ true) → (q ≡ true → p ≡ true) → p ≡ q
same_truth true true f h = refl
same_truth true false f h = sym (f refl)
same_truth false true f h = h refl
same_truth false false f h = refl

has-take : (n : ℕ) (s : List ℕ) (k : ℕ) → has s k ≡ false → has (take n s) k ≡ false
has-take zero s k h = refl
has-take (suc n) [] k h = refl
has-take (suc n) (x ∷ s) k h = at (eqb x k) h (has-take n s k)
  where
    at : (c : Bool) → (c || has s k) ≡ false → (has s k ≡ false → has (take n s) k ≡ false) → (c || has (take n s) k) ≡ false
    at true h rest = absurd (false≢true (sym h))
    at false h rest = rest h

-- the first ones of distinct numbers are distinct
pub AreDistinct-take : (n : ℕ) (s : List ℕ) → AreDistinct s → AreDistinct (take n s)
AreDistinct-take zero s h = tt
AreDistinct-take (suc n) [] h = tt
AreDistinct-take (suc n) (x ∷ s) h = (has-take n s x h.0, AreDistinct-take n s h.1)
