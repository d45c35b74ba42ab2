-- What a number noted under an outpoint adds to the lists.
use Rattle.std.proofs.Common.{◌≡◌, ℕ, Bool, true, false, cond, eqb, ltb, ◌+◌, ◌<◌, ◌&&◌, ◌||◌, take, length, get_or, List, [], ◌∷◌, ◌++◌, Option, Some, None, refl, sym, ap, ◌∙◌, arith}
use Rattle.std.specs.BTreeMap.{BTreeMap, get, is_at, Updates}
use Rattle.std.specs.Prelude.{OnErr, OnOk, Result, Ok, Err}
use Rattle.std.specs.Result.{is_err}
use Rattle.std.specs.Map.{set_value, lookup}
use Rattle.std.proofs.lemmas.Map.Steps.{set_value_same}
use Rattle.std.specs.Ordering.{is_eq, nat_cmp, ordering_then}
use Rattle.std.specs.declared.cmp.Ordering.{Ordering}
use Rattle.std.specs.declared.cmp.Ordering.TheVariants.{Equal, Greater, Less}
use Rattle.std.proofs.lemmas.Bool.{false≢true, ltb-true, eqb-true, and_parts}
use Rattle.std.proofs.lemmas.Bool.Decides.{nat_tests}
use Rattle.std.proofs.lemmas.List.{append-nil}
use Rattle.sp_ids.specs.declared.outpoint.Outpoint.{Outpoint}
use Rattle.sp_ids.specs.Outpoints.{outpoint_cmp}
use Rattle.std.proofs.lemmas.List.{take_more}
use Rattle.std.proofs.lemmas.List.Folds.{list_any-append}
use Rattle.sp_tx.specs.declared.parts.Input.{Input}
use Rattle.sp_carry.specs.Payment.{is_same_outpoint}
use Rattle.sp_carry.specs.Lookups.{is_spent_by, kept_at, list_or_none, AreApart, IsNoted}

picked : (less same : Bool) → (less ≡ true → same ≡ false) → is_eq (cond less Less (cond same Equal Greater)) ≡ same
picked true true h = absurd (let e : true ≡ false = h refl in cc)
picked true false h = refl
picked false true h = refl
picked false false h = refl

pub is_eq-nat_cmp : (x y : ℕ) → is_eq (nat_cmp x y) ≡ eqb x y
is_eq-nat_cmp x y = picked (ltb x y) (eqb x y) (λ e. let h : x < y = ltb-true x y e in grind (arith, nat_tests))

pub eqb-flip : (x y : ℕ) → eqb x y ≡ eqb y x
eqb-flip x y = grind (arith, nat_tests)

is_eq-then : (o p : Ordering) → is_eq (ordering_then o p) ≡ (is_eq o && is_eq p)
is_eq-then Less p = refl
is_eq-then Equal p = refl
is_eq-then Greater p = refl

pub is_eq_same : (a b : Outpoint) → is_eq (outpoint_cmp a b) ≡ is_same_outpoint b a
is_eq_same a b =
    is_eq-then (nat_cmp a.tx b.tx) (nat_cmp a.index b.index)
    ∙ rw (is_eq-nat_cmp a.tx b.tx, is_eq-nat_cmp a.index b.index, eqb-flip a.tx b.tx, eqb-flip a.index b.index) refl

pub same_is : (a b : Outpoint) → is_same_outpoint a b ≡ true → a ≡ b
same_is a b h =
    let p : (eqb a.tx b.tx ≡ true) × (eqb a.index b.index ≡ true) = and_parts (eqb a.tx b.tx) (eqb a.index b.index) h in
    let e : a.tx ≡ b.tx = eqb-true a.tx b.tx p.0 in
    let f : a.index ≡ b.index = eqb-true a.index b.index p.1 in
    ap (λ (n : ℕ). record { tx = n; index = a.index }) e ∙ ap (λ (n : ℕ). record { tx = b.tx; index = n }) f

-- under a key that wasn't there
pub first_noted : (old mid new : BTreeMap Outpoint (List ℕ)) (from : Outpoint) (number : ℕ) → get outpoint_cmp old from ≡ None → mid ≡ old
    → Updates outpoint_cmp mid new from (Some (number ∷ [])) → (other : Outpoint)
    → kept_at new other ≡ kept_at old other ++ cond (is_same_outpoint other from) (number ∷ []) []
first_noted old mid new from number none same u other =
    ap list_or_none (u.0 other ∙ ap (λ (m : BTreeMap Outpoint (List ℕ)). cond (is_eq (outpoint_cmp from other)) (Some (number ∷ [])) (get outpoint_cmp m other)) same ∙ ap (λ (c : Bool). cond c (Some (number ∷ [])) (get outpoint_cmp old other)) (is_eq_same from other)) ∙ at (is_same_outpoint other from) refl
  where
    at : (c : Bool) → is_same_outpoint other from ≡ c
        → list_or_none (cond c (Some (number ∷ [])) (get outpoint_cmp old other)) ≡ kept_at old other ++ cond c (number ∷ []) []
    at true e = sym (ap (λ (o : Option (List ℕ)). list_or_none o ++ number ∷ []) (ap (get outpoint_cmp old) (same_is other from e) ∙ none))
    at false e = sym (append-nil (kept_at old other))

pub on_err : {T E A B : Type 0} (r : Result T E) → OnErr r A → (A → B) → OnErr r B
on_err (Ok x) h f = h
on_err (Err e) h f = f h

-- what was there is written again
pub rewritten : (old new : BTreeMap Outpoint (List ℕ)) (from : Outpoint) (list now : List ℕ) → Some list ≡ get outpoint_cmp old from
    → new.entries ≡ set_value (is_at (outpoint_cmp from)) old.entries now → now ≡ list → (other : Outpoint) → kept_at new other ≡ kept_at old other
rewritten old new from list now there e same other =
    let whole : new.entries ≡ old.entries = e ∙ ap (set_value (is_at (outpoint_cmp from)) old.entries) same
    ∙ set_value_same (is_at (outpoint_cmp from)) old.entries list (sym there) in
    ap (λ (es : List (Outpoint × List ℕ)). list_or_none (lookup (is_at (outpoint_cmp other)) es)) whole

-- an outpoint stands in a list with one more input where it stood before, or is that of the input
pub spent_more : (inputs : List Input) (i : ℕ) (input : Input) (from : Outpoint) → i < length inputs → input ≡ get_or inputs i input
    → is_spent_by from (take (i + 1) inputs) ≡ (is_spent_by from (take i inputs) || is_same_outpoint from input.from)
spent_more inputs i input from lt is =
    ap (λ (xs : List Input). is_spent_by from xs) (take_more inputs i input lt ∙ ap (λ (x : Input). take i inputs ++ x ∷ []) (sym is))
    ∙ list_any-append (λ (x : Input). is_same_outpoint from x.from) (take i inputs) (input ∷ []) ∙ ap (λ (c : Bool). is_spent_by from (take i inputs) || c) (or_none (is_same_outpoint from input.from))
  where
    or_none : (c : Bool) → (c || false) ≡ c
    or_none true = refl
    or_none false = refl

-- the next input is noted
pub noted_more : (first old new : BTreeMap Outpoint (List ℕ)) (inputs : List Input) (i : ℕ) (input : Input) (number : ℕ) → AreApart inputs
    → i < length inputs → input ≡ get_or inputs i input → IsNoted first old (take i inputs) number
    → ((from : Outpoint) → kept_at new from ≡ kept_at old from ++ cond (is_same_outpoint from input.from) (number ∷ []) [])
    → IsNoted first new (take (i + 1) inputs) number
noted_more first old new inputs i input number apart lt is before now from =
    now from ∙ rw (before from, spent_more inputs i input from lt is)
    (at (is_spent_by from (take i inputs)) (is_same_outpoint from input.from) refl refl)
  where
    at : (b c : Bool) → is_spent_by from (take i inputs) ≡ b → is_same_outpoint from input.from ≡ c
        → (kept_at first from ++ cond b (number ∷ []) []) ++ cond c (number ∷ []) [] ≡ kept_at first from ++ cond (b || c) (number ∷ []) []
    at true true e f =
        absurd (false≢true (sym (apart i input lt is) ∙ ap (λ (o : Outpoint). is_spent_by o (take i inputs)) (sym (same_is from input.from f)) ∙ e))
    at true false e f = append-nil (kept_at first from ++ number ∷ [])
    at false true e f = ap (λ (xs : List ℕ). xs ++ number ∷ []) (append-nil (kept_at first from))
    at false false e f = append-nil (kept_at first from ++ [])

pub on_ok : {T E A B : Type 0} (r : Result T E) → OnOk r A → (A → B) → OnOk r B
on_ok (Ok x) h f = f h
on_ok (Err e) h f = h

pub when_err : {T E A : Type 0} (r : Result T E) → is_err r ≡ true → OnErr r A → A
when_err (Ok x) e h = absurd (false≢true e)
when_err (Err y) e h = h

pub when_ok : {T E A : Type 0} (r : Result T E) → is_err r ≡ false → OnOk r A → A
when_ok (Ok x) e h = h
when_ok (Err y) e h = absurd (false≢true (sym e))
