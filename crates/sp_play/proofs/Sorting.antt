-- Inputs put in one after another are the sort of the inputs.
use Rattle.std.proofs.Common.{◌≡◌, Bool, true, false, not, ◌&&◌, List, [], ◌∷◌, inl, inr, refl, sym, ap, ◌∙◌}
use Rattle.std.specs.List.{AllByRecursion, filter}
use Rattle.std.specs.List.Sorted.{ties}
use Rattle.std.proofs.lemmas.Bool.{cases_Bool}
use Rattle.sp_tx.specs.declared.parts.Input.{Input}
use Rattle.sp_tx.specs.Sorting.{IsSortOf}
use Rattle.sp_tx.proofs.Sorts.{before, one_rising, ranked, Rises, rises}
use Rattle.sp_play.specs.Judging.{by_outpoint, put_input}

-- ---- inputs by outpoint

-- an input that is put in is not below what none is below
put_above : (low x : Input) (ys : List Input) → before x low ≡ false → AllByRecursion (λ y. before y low ≡ false) ys → AllByRecursion (λ y. before y low ≡ false) (put_input x ys)
put_above low x [] h all = (h, tt)
put_above low x (y ∷ ys) h all = elim (cases_Bool (before y x)) [
  | inl e ↦ rw e (all.0, put_above low x ys h all.1)
  | inr e ↦ rw e (h, all)
]

none_below : (x y : Input) (zs : List Input) → before y x ≡ false → AllByRecursion (λ z. before z y ≡ false) zs → AllByRecursion (λ z. before z x ≡ false) zs
none_below x y [] h all = tt
none_below x y (z ∷ zs) h all = (ranked.chain z y x all.0 h, none_below x y zs h all.1)

put_rises : (x : Input) (ys : List Input) → Rises before ranked ys → Rises before ranked (put_input x ys)
put_rises x [] up = (tt, tt)
put_rises x (y ∷ ys) up = elim (cases_Bool (before y x)) [
  | inl e ↦ rw e (put_above y x ys (ranked.one_way y x e) up.0, put_rises x ys up.1)
  | inr e ↦ rw e ((e, none_below x y ys e up.0), up)
]

sorted_rises : (xs : List Input) → Rises before ranked (by_outpoint xs)
unfolding by_outpoint
sorted_rises [] = tt
sorted_rises (x ∷ xs) = put_rises x (by_outpoint xs) (sorted_rises xs)

-- two inputs that tie with a third tie
pub both_parts : (b c : Bool) → (not b && not c) ≡ true → (b ≡ false) × (c ≡ false)
both_parts true c e = cc
both_parts false true e = cc
both_parts false false e = (refl, refl)

not_both : (x y z : Input) → before y x ≡ true → ties before z x ≡ true → ties before z y ≡ true → ⊥
not_both x y z less tx ty =
    let of_x = both_parts (before z x) (before x z) tx in
    let of_y = both_parts (before z y) (before y z) ty in
    let chained : before y x ≡ false = ranked.chain y z x of_y.1 of_x.0 in
    let no : true ≡ false = sym less ∙ chained in cc

put_ties : (z x : Input) (ys : List Input) → filter (ties before z) (put_input x ys) ≡ filter (ties before z) (x ∷ ys)
put_ties z x [] = refl
put_ties z x (y ∷ ys) = elim (cases_Bool (before y x)) [
  | inl e ↦ rw e (elim (cases_Bool (ties before z y)) [
    | inl ty ↦ elim (cases_Bool (ties before z x)) [
      | inl tx ↦ absurd (not_both x y z e tx ty)
      | inr tx ↦ rw (ty, tx) (ap (λ (l : List Input). y ∷ l) (put_ties z x ys ∙ rw tx refl))
    ]
    | inr ty ↦ rw ty (put_ties z x ys)
  ])
  | inr e ↦ rw e refl
]

sorted_ties : (z : Input) (xs : List Input) → filter (ties before z) (by_outpoint xs) ≡ filter (ties before z) xs
unfolding by_outpoint
sorted_ties z [] = refl
sorted_ties z (x ∷ xs) = put_ties z x (by_outpoint xs) ∙ elim (cases_Bool (ties before z x)) [
  | inl e ↦ rw e (ap (λ (l : List Input). x ∷ l) (sorted_ties z xs))
  | inr e ↦ rw e (sorted_ties z xs)
]

-- so any sort of the inputs is this one
pub is_sorted : (xs ys : List Input) → IsSortOf xs ys → ys ≡ by_outpoint xs
is_sorted xs ys h = one_rising before ranked ys (by_outpoint xs) (rises before ranked ys h.in_order) (sorted_rises xs) (λ z. h.stable z ∙ sym (sorted_ties z xs))
