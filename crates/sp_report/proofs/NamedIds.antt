-- Ids in the order of naming: as many as there were, each of them once.
use Rattle.std.proofs.Common.{◌≡◌, ℕ, Bool, true, false, ◌||◌, cond, List, [], ◌∷◌, length, length-append, eqb, inl, inr, refl, sym, ap, ◌∙◌, arith}
use Rattle.std.specs.Prelude.{filter, nat_le, not}
use Rattle.std.specs.List.{list_any}
use Rattle.std.proofs.lemmas.Bool.{cases_Bool, eq-eqb, eqb-true, false_from_ne_true, false≢true, ne_eqb}
use Rattle.std.proofs.lemmas.List.Filters.{length-filter_both}
use Rattle.sp_block.specs.Ascending.{ascending, put_in}
use Rattle.sp_model.specs.Graph.{AreDistinct, has}
use Rattle.sp_model.proofs.Sets.{has-filter, has-filter_from, same_truth}
use Rattle.sp_engine.proofs.Counts.{same_length}
use Rattle.sp_names.specs.Labels.{AreNamedOnce, in_order, Label, named}

-- ---- different ids

-- those that pass a test
pub distinct_passing : (p : ℕ → Bool) (xs : List ℕ) → AreDistinct xs → AreDistinct (filter p xs)
distinct_passing p [] once = tt
distinct_passing p (x ∷ xs) once = at (p x) (distinct_passing p xs once.1)
  where
    at : (c : Bool) → AreDistinct (filter p xs) → AreDistinct (cond c (x ∷ filter p xs) (filter p xs))
    at true rest = (false_from_ne_true (has (filter p xs) x) (λ there. false≢true (sym once.0 ∙ (has-filter p xs x there).0)), rest)
    at false rest = rest

flip : (x y : ℕ) → eqb x y ≡ eqb y x
flip x y = elim (cases_Bool (eqb x y)) [
  | inl e ↦ e ∙ sym (eq-eqb y x (sym (eqb-true x y e)))
  | inr e ↦ e ∙ sym (ne_eqb y x (λ same. false≢true (sym e ∙ eq-eqb x y (sym same))))
]

or_swap : (a b c : Bool) → (a || (b || c)) ≡ (b || (a || c))
or_swap true true c = refl
or_swap true false c = refl
or_swap false true c = refl
or_swap false false c = refl

or_both : (a b : Bool) → (a || b) ≡ false → (a ≡ false) × (b ≡ false)
or_both true b e = absurd (false≢true (sym e))
or_both false b e = (refl, e)

put_in_has : (x : ℕ) (ys : List ℕ) (z : ℕ) → has (put_in x ys) z ≡ (eqb x z || has ys z)
put_in_has x [] z = refl
put_in_has x (y ∷ ys) z = elim (cases_Bool (nat_le x y)) [
  | inl e ↦ rw e refl
  | inr e ↦ rw e (ap (λ (b : Bool). eqb y z || b) (put_in_has x ys z) ∙ or_swap (eqb y z) (eqb x z) (has ys z))
]

put_in_once : (x : ℕ) (ys : List ℕ) → AreDistinct ys → has ys x ≡ false → AreDistinct (put_in x ys)
put_in_once x [] once none = (refl, tt)
put_in_once x (y ∷ ys) once none = elim (cases_Bool (nat_le x y)) [
  | inl e ↦ rw e (none, once)
  | inr e ↦
      let both = or_both (eqb y x) (has ys x) none in
      rw e (put_in_has x ys y ∙ ap (λ (b : Bool). b || has ys y) (flip x y ∙ both.0) ∙ once.0, put_in_once x ys once.1 both.1)
]

ascending_has : (xs : List ℕ) (z : ℕ) → has (ascending xs) z ≡ has xs z
unfolding ascending
ascending_has [] z = refl
ascending_has (x ∷ xs) z = put_in_has x (ascending xs) z ∙ ap (λ (b : Bool). eqb x z || b) (ascending_has xs z)

-- in ascending order
pub ascending_once : (xs : List ℕ) → AreDistinct xs → AreDistinct (ascending xs)
unfolding ascending
ascending_once [] once = tt
ascending_once (x ∷ xs) once = put_in_once x (ascending xs) (ascending_once xs once.1) (ascending_has xs x ∙ once.0)

-- those that have names
any_named : (labels : List Label) (k : ℕ) → has (named labels) k ≡ list_any (λ (other : Label). eqb other.0 k) labels
any_named [] k = refl
any_named (label ∷ labels) k = ap (λ b. eqb label.0 k || b) (any_named labels k)

named_once : (labels : List Label) → AreNamedOnce labels → AreDistinct (named labels)
named_once [] once = tt
named_once (label ∷ labels) once = (any_named labels label.0 ∙ once.0, named_once labels once.1)

-- ---- the order of naming

-- with no names it is that in which they stand
all_pass : (xs : List ℕ) → filter (λ id. true) xs ≡ xs
all_pass [] = refl
all_pass (x ∷ xs) = ap (λ (zs : List ℕ). x ∷ zs) (all_pass xs)

none_pass : (xs : List ℕ) → filter (has xs) [] ≡ []
none_pass xs = refl

pub order_without_names : (ids : List ℕ) → in_order [] ids ≡ ids
unfolding in_order
order_without_names ids = all_pass ids

-- none is lost, and none stands twice
pub in_order_long : (labels : List Label) (ids : List ℕ) → AreNamedOnce labels → AreDistinct ids → length (in_order labels ids) ≡ length ids
unfolding in_order
in_order_long labels ids once apart =
    let set : List ℕ = named labels in
    let first : List ℕ = filter (has ids) set in
    let same : length first ≡ length (filter (has set) ids) =
    same_length first (filter (has set) ids) (distinct_passing (has ids) set (named_once labels once)) (distinct_passing (has set) ids apart)
    (λ z. same_truth (has first z) (has (filter (has set) ids) z)
    (λ there. let both = has-filter (has ids) set z there in has-filter_from (has set) ids z both.1 both.0)
    (λ there. let both = has-filter (has set) ids z there in has-filter_from (has ids) set z both.1 both.0)) in
    omega (arith, length-append first (filter (λ id. not (has set id)) ids), same, length-filter_both (has set) (λ id. not (has set id)) (λ x. refl) ids)
