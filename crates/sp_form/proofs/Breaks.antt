-- The fault that a written value has, whatever follows it.
use Rattle.std.proofs.Common.{◌≡◌, ℕ, suc, ◌+◌, ◌<◌, ◌≤◌, Bool, true, false, ltb, leb, ◌&&◌, List, [], ◌∷◌, ◌++◌, length, drop, get_or, Some, Ok, Err, refl, sym, ap, subst, ◌∙◌, append_assoc, arith, inl, inr, ◌⊎◌}
use Rattle.std.specs.List.{flat_map}
use Rattle.std.proofs.lemmas.Bool.{le-ltb, lt-leb}
use Rattle.std.proofs.lemmas.List.{take_at, length-append, drop_more}
use Rattle.std.proofs.lemmas.List.Concat.{flat_map-cons}
use Rattle.sp_form.specs.Form.{Form, whole, field, bind, rows, Rule, rule, first_broken}
use Rattle.sp_form.specs.Reading.{read}
use Rattle.sp_form.specs.Turns.{InTurn}
use Rattle.sp_form.specs.Values.{byte, count_form, value_form}
use Rattle.sp_form.proofs.FormLaws.{read_then}

-- a whole field that breaks a rule
pub breaks : {E A : Type 0} (width : ℕ) (short : E) (rules : List ℕ → List (Rule E)) (next : List ℕ → Form E A) (bytes rest : List ℕ) (fault : E) → length bytes ≡ width → first_broken (rules bytes) ≡ Some fault
    → read (field width short rules next) (bytes ++ rest) ≡ Err fault
unfolding read
breaks width short rules next bytes rest fault len broken =
    let long : ltb (length (bytes ++ rest)) width ≡ false = le-ltb _ _ (omega (arith, length-append bytes rest)) in
    rw (long, take_at bytes rest width len, broken) refl

-- a written value that breaks a rule
pub value_breaks : {E A : Type 0} (width : ℕ) (short : E) (value : List ℕ → A) (rules : A → List (Rule E)) (x : A) (bytes rest : List ℕ) (fault : E) → length bytes ≡ width → value bytes ≡ x → first_broken (rules x) ≡ Some fault
    → read (value_form width short value rules) (bytes ++ rest) ≡ Err fault
value_breaks width short value rules x bytes rest fault len is broken =
    breaks width short (λ b. rules (value b)) (λ b. whole (value b)) bytes rest fault len (rw is broken)

pub first_breaks : {E A B : Type 0} (form : Form E A) (f : A → Form E B) (list : List ℕ) (fault : E) → read form list ≡ Err fault → read (bind form f) list ≡ Err fault
first_breaks form f list fault e = read_then form f list ∙ rw e refl

pub later_breaks : {E A B : Type 0} (form : Form E A) (f : A → Form E B) (list : List ℕ) (x : A) (rest : List ℕ) (fault : E) → read form list ≡ Ok (x, rest) → read (f x) rest ≡ Err fault → read (bind form f) list ≡ Err fault
later_breaks form f list x rest fault e h = read_then form f list ∙ rw e h

-- a number of one byte that is outside its limits
pub count_breaks : {E : Type 0} (short : E) (least most : ℕ) (fault : E) (n : ℕ) (rest : List ℕ) → (n < least) ⊎ (most < n) → read (count_form short least most fault) (n ∷ rest) ≡ Err fault
count_breaks {E} short least most fault n rest (inl low) =
    let a : leb least n ≡ false = lt-leb _ _ low in
    let broken : first_broken (rule (leb least n && leb n most) fault ∷ []) ≡ Some fault = rw a refl in
    value_breaks 1 short byte (λ n. rule (leb least n && leb n most) fault ∷ []) n (n ∷ []) rest fault refl refl broken
count_breaks {E} short least most fault n rest (inr high) =
    let b : leb n most ≡ false = lt-leb _ _ high in
    value_breaks 1 short byte (λ n. rule (leb least n && leb n most) fault ∷ []) n (n ∷ []) rest fault refl refl (both (leb least n) (leb n most) b)
  where
    both : (p q : Bool) → q ≡ false → first_broken (rule (p && q) fault ∷ []) ≡ Some fault
    both true true e = absurd cc
    both true false e = refl
    both false q e = refl

pub outside : (n least most : ℕ) → (n < least) ⊎ ((least ≤ n) × (most < n)) → (n < least) ⊎ (most < n)
outside n least most (inl low) = inl low
outside n least most (inr high) = inr high.1

-- Values of one kind, one after another: what is left decides for all.
module _ {E A S : Type 0} (item : S → Form E A) (carried : S → A → S) (text : A → List ℕ) (meets : S → A → Type 0) where
  pub record Decides (all : List A) (start : S) (left : List A) (seen : S) : Type 0 where
    pub met : InTurn meets carried seen left → InTurn meets carried start all
    pub fault : (f : E) (rest : List ℕ) → read (rows item carried (length left) seen) (flat_map text left ++ rest) ≡ Err f → read (rows item carried (length all) start) (flat_map text all ++ rest) ≡ Err f

  pub decides_all : (all : List A) (start : S) → Decides all start all start
  decides_all all start = record { met = λ h. h; fault = λ f rest e. e }

  front : (x : A) (left : List A) (rest : List ℕ) → flat_map text (x ∷ left) ++ rest ≡ text x ++ (flat_map text left ++ rest)
  front x left rest = ap (λ (t : List ℕ). t ++ rest) (flat_map-cons text x left) ∙ append_assoc (text x) (flat_map text left) rest

  decides_next : (all : List A) (start : S) (x : A) (left : List A) (seen : S) → ((rest : List ℕ) → read (item seen) (text x ++ rest) ≡ Ok (x, rest)) → meets seen x → Decides all start (x ∷ left) seen → Decides all start left (carried seen x)
  unfolding rows
  decides_next all start x left seen one m d = record {
    met = λ h. d.met (m, h);
    fault = λ f rest e. d.fault f rest (ap (read (rows item carried (suc (length left)) seen)) (front x left rest)
        ∙ later_breaks (item seen) (λ first. bind (rows item carried (length left) (carried seen first)) (λ others. whole (first ∷ others))) (text x ++ (flat_map text left ++ rest)) x (flat_map text left ++ rest) f (one (flat_map text left ++ rest))
        (first_breaks (rows item carried (length left) (carried seen x)) (λ others. whole (x ∷ others)) (flat_map text left ++ rest) f e));
  }

  decides_fault : (all : List A) (start : S) (x : A) (left : List A) (seen : S) (f : E) → ((rest : List ℕ) → read (item seen) (text x ++ rest) ≡ Err f) → Decides all start (x ∷ left) seen
      → (rest : List ℕ) → read (rows item carried (length all) start) (flat_map text all ++ rest) ≡ Err f
  unfolding rows
  decides_fault all start x left seen f one d rest = d.fault f rest (ap (read (rows item carried (suc (length left)) seen)) (front x left rest)
      ∙ first_breaks (item seen) (λ first. bind (rows item carried (length left) (carried seen first)) (λ others. whole (first ∷ others))) (text x ++ (flat_map text left ++ rest)) f (one (flat_map text left ++ rest)))

  at_place : (xs : List A) (i : ℕ) (x : A) → i < length xs → x ≡ get_or xs i x → drop i xs ≡ x ∷ drop (i + 1) xs
  at_place xs i x lt is = drop_more xs i x lt ∙ ap (λ (y : A). y ∷ drop (i + 1) xs) (sym is)

  -- the value at a place is met
  pub decides_step : (all : List A) (start : S) (i : ℕ) (x : A) (seen : S) → i < length all → x ≡ get_or all i x → ((rest : List ℕ) → read (item seen) (text x ++ rest) ≡ Ok (x, rest)) → meets seen x
      → Decides all start (drop i all) seen → Decides all start (drop (i + 1) all) (carried seen x)
  decides_step all start i x seen lt is one m d = decides_next all start x (drop (i + 1) all) seen one m (subst (λ (left : List A). Decides all start left seen) (at_place all i x lt is) d)

  -- the value at a place has a fault
  pub decides_here : (all : List A) (start : S) (i : ℕ) (x : A) (seen : S) (f : E) → i < length all → x ≡ get_or all i x → ((rest : List ℕ) → read (item seen) (text x ++ rest) ≡ Err f)
      → Decides all start (drop i all) seen → (rest : List ℕ) → read (rows item carried (length all) start) (flat_map text all ++ rest) ≡ Err f
  decides_here all start i x seen f lt is one d = decides_fault all start x (drop (i + 1) all) seen f one (subst (λ (left : List A). Decides all start left seen) (at_place all i x lt is) d)
