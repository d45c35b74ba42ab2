-- Reading by a format, and that it finds what the list spells, or its first fault.
use Rattle.std.proofs.Common.{◌≡◌, ℕ, Bool, true, false, cond, ltb, eqb, ◌&&◌, List, [], ◌∷◌, ◌++◌, length, take, drop, Option, Some, None, Result, Ok, Err, refl, sym, ap, ◌∙◌, append_assoc, arith, ◌⊎◌, inl, inr}
use Rattle.std.specs.Prelude.{if◌then◌else◌, is_none}
use Rattle.std.proofs.lemmas.Bool.{ltb-false, le-ltb, eqb-true}
use Rattle.std.proofs.lemmas.List.{take_at, drop_at, take-append-drop, length-append, length-take, append_cancel_right}
use Rattle.std.proofs.lemmas.Bool.Decides.{nat_tests}
use Rattle.sp_form.specs.Reading.{unless, read, ◌then◌}
use Rattle.sp_form.specs.Form.{Form, whole, field, bind, ◌>>=◌, Rule, first_broken, joined, after, Spells, fault_at, HasFault, Begins}

unless-then : {E X Y : Type 0} (o : Option E) (r : Result X E) (f : X → Result Y E) → (unless o r then f) ≡ unless o (r then f)
unless-then None r f = refl
unless-then (Some e) r f = refl

cond-then : {E X Y : Type 0} (b : Bool) (e : E) (r : Result X E) (f : X → Result Y E) → (cond b (Err e) r then f) ≡ cond b (Err e) (r then f)
cond-then true e r f = refl
cond-then false e r f = refl

-- one format after another is read so
pub read_then : {E A B : Type 0} (form : Form E A) (f : A → Form E B) (list : List ℕ) → read (form >>= f) list ≡ (read form list then λ x. read (f x.0) x.1)
unfolding read bind
read_then (whole x) f list = refl
read_then (field width short rules next) f list =
    rw (read_then (next (take width list)) f (drop width list))
    (sym (cond-then (ltb (length list) width) short (unless (first_broken (rules (take width list))) (read (next (take width list)) (drop width list))) (λ x. read (f x.0) x.1)
    ∙ ap (λ t. cond (ltb (length list) width) (Err short) t) (unless-then (first_broken (rules (take width list))) (read (next (take width list)) (drop width list)) (λ x. read (f x.0) x.1))))

and_true : (a b : Bool) → (a && b) ≡ true → (a ≡ true) × (b ≡ true)
and_true true true e = (refl, refl)
and_true true false e = absurd cc
and_true false b e = absurd cc

none_is : {E : Type 0} (o : Option E) → is_none o ≡ true → o ≡ None
none_is None e = refl
none_is (Some x) e = absurd cc

-- an option that is there came by the test
given : {X : Type 0} (b : Bool) (o : Option X) (x : X) → cond b o None ≡ Some x → (b ≡ true) × (o ≡ Some x)
given true o x e = (refl, e)
given false o x e = absurd cc

some_is : {X : Type 0} (x y : X) → Some x ≡ Some y → x ≡ y
some_is x y e = cc

-- a whole field that meets its rules is passed
pub passes : {E A : Type 0} (width : ℕ) (short : E) (rules : List ℕ → List (Rule E)) (next : List ℕ → Form E A) (bytes rest : List ℕ) → length bytes ≡ width → first_broken (rules bytes) ≡ None
    → read (field width short rules next) (bytes ++ rest) ≡ read (next bytes) rest
unfolding read
passes width short rules next bytes rest len met =
    let long : ltb (length (bytes ++ rest)) width ≡ false = le-ltb _ _ (omega (arith, length-append bytes rest)) in
    rw (long, take_at bytes rest width len, drop_at bytes rest width len, met) refl

-- a row of whole fields that meet their rules is passed
pub passes_row : {E A : Type 0} (form due : Form E A) (row : List (List ℕ)) (rest : List ℕ) → after form row ≡ Some due → read form (joined row ++ rest) ≡ read due rest
unfolding after
passes_row form due [] rest left = ap (λ f. read f rest) (some_is form due left)
passes_row (whole x) due (bytes ∷ row) rest left = absurd cc
passes_row (field width short rules next) due (bytes ∷ row) rest left =
    let g = given (eqb (length bytes) width && is_none (first_broken (rules bytes))) (after (next bytes) row) due left in
    let t = and_true (eqb (length bytes) width) (is_none (first_broken (rules bytes))) g.0 in
    let one = passes width short rules next bytes (joined row ++ rest) (eqb-true _ _ t.0) (none_is _ t.1) in
    rw (append_assoc bytes (joined row) rest) (one ∙ passes_row (next bytes) due row rest g.1)

-- what a list spells is read, whatever follows it
pub reads_spelled : {E A : Type 0} (form : Form E A) (text : List ℕ) (x : A) (rest : List ℕ) → Spells form text x → read form (text ++ rest) ≡ Ok (x, rest)
unfolding read
reads_spelled form text x rest s = rw s.parts (passes_row form (whole x) s.row rest s.left)

wrong_test : {E X : Type 0} (b : Bool) (short fault : E) (o : Option E) (r : Result X E) → cond b (Some short) o ≡ Some fault → cond b (Err short) (unless o r) ≡ Err fault
wrong_test true short fault o r e = cc
wrong_test false short fault (Some f) r e = cc
wrong_test false short fault None r e = absurd cc

wrong_at : {E A : Type 0} (due : Form E A) (list : List ℕ) (fault : E) → fault_at due list ≡ Some fault → read due list ≡ Err fault
unfolding read fault_at
wrong_at (whole x) list fault e = absurd cc
wrong_at (field width short rules next) list fault e =
    wrong_test (ltb (length list) width) short fault (first_broken (rules (take width list))) (read (next (take width list)) (drop width list)) e

-- the first fault is read
pub reads_fault : {E A : Type 0} (form : Form E A) (list : List ℕ) (fault : E) → HasFault form list fault → read form list ≡ Err fault
reads_fault form list fault h = rw h.parts (passes_row form h.due h.row h.rest h.left ∙ wrong_at h.due h.rest fault h.breaks)

-- what reading makes of a field: it ends early, it breaks a rule, or it is passed
pub data Field {E A : Type 0} (width : ℕ) (short : E) (rules : List ℕ → List (Rule E)) (next : List ℕ → Form E A) (list : List ℕ) : Type 0 where
  early : ltb (length list) width ≡ true → Field width short rules next list
  broken : (e : E) → ltb (length list) width ≡ false → first_broken (rules (take width list)) ≡ Some e → Field width short rules next list
  passed : ltb (length list) width ≡ false → first_broken (rules (take width list)) ≡ None → Field width short rules next list

cases_rules : {E A : Type 0} (width : ℕ) (short : E) (rules : List ℕ → List (Rule E)) (next : List ℕ → Form E A) (list : List ℕ) (o : Option E) → ltb (length list) width ≡ false → first_broken (rules (take width list)) ≡ o → Field width short rules next list
cases_rules width short rules next list None b e = passed b e
cases_rules width short rules next list (Some f) b e = broken f b e

cases_test : {E A : Type 0} (width : ℕ) (short : E) (rules : List ℕ → List (Rule E)) (next : List ℕ → Form E A) (list : List ℕ) (b : Bool) → ltb (length list) width ≡ b → Field width short rules next list
cases_test width short rules next list true e = early e
cases_test width short rules next list false e = cases_rules width short rules next list (first_broken (rules (take width list))) e refl

pub cases_field : {E A : Type 0} (width : ℕ) (short : E) (rules : List ℕ → List (Rule E)) (next : List ℕ → Form E A) (list : List ℕ) → Field width short rules next list
cases_field width short rules next list = cases_test width short rules next list (ltb (length list) width) refl

pub ok_pair : {E X Y : Type 0} (x y : X) (a b : Y) → (let r : Result (X × Y) E = Ok (x, a) in r) ≡ Ok (y, b) → (x ≡ y) × (a ≡ b)
ok_pair {E} {X} {Y} x y a b e =
    let p : (let q : X × Y = (x, a) in q) ≡ (y, b) = cc in (ap (λ (q : X × Y). q.0) p, ap (λ (q : X × Y). q.1) p)

err_is : {E X : Type 0} (d e : E) → (let r : Result X E = Err d in r) ≡ Err e → d ≡ e
err_is d e h = cc

-- the row with one more field in front
more : {E A : Type 0} (width : ℕ) (short : E) (rules : List ℕ → List (Rule E)) (next : List ℕ → Form E A) (bytes : List ℕ) (row : List (List ℕ)) (due : Form E A) → length bytes ≡ width → first_broken (rules bytes) ≡ None
    → after (next bytes) row ≡ Some due → after (field width short rules next) (bytes ∷ row) ≡ Some due
unfolding after
more width short rules next bytes row due len met left =
    let same : eqb (length bytes) width ≡ true = grind (arith, nat_tests) in
    rw (same, met) left

joined_parts : (width : ℕ) (list text rest : List ℕ) → drop width list ≡ text ++ rest → list ≡ (take width list ++ text) ++ rest
joined_parts width list text rest e = sym (take-append-drop width list) ∙ ap (λ t. take width list ++ t) e ∙ sym (append_assoc (take width list) text rest)

-- a value that is read is spelled by a front
pub record Front {E A : Type 0} (form : Form E A) (list : List ℕ) (x : A) (rest : List ℕ) : Type 0 where
  pub text : List ℕ
  pub spells : Spells form text x
  pub parts : list ≡ text ++ rest

pub spelled_front : {E A : Type 0} (form : Form E A) (list : List ℕ) (x : A) (rest : List ℕ) → read form list ≡ Ok (x, rest) → Front form list x rest
unfolding read after
spelled_front (whole y) list x rest e =
    let p = ok_pair y x list rest e in
    record { text = []; spells = record { row = []; parts = refl; left = ap (λ v. Some (whole v)) p.0 }; parts = p.1 }
spelled_front (field width short rules next) list x rest e =
    elim (cases_field width short rules next list) [
      | early b ↦ absurd (let h : Err short ≡ Ok (x, rest) = rw b at e in cc)
      | broken f b m ↦ absurd (let h : Err f ≡ Ok (x, rest) = rw (b, m) at e in cc)
      | passed b m ↦
          let h : read (next (take width list)) (drop width list) ≡ Ok (x, rest) = rw (b, m) at e in
          let front = spelled_front (next (take width list)) (drop width list) x rest h in
          let len : length (take width list) ≡ width = omega (arith, length-take width list, ltb-false _ _ b) in
          record {
            text = take width list ++ front.text;
            spells = record {
              row = take width list ∷ front.spells.row;
              parts = ap (λ t. take width list ++ t) front.spells.parts;
              left = more width short rules next (take width list) front.spells.row (whole x) len m front.spells.left;
            };
            parts = joined_parts width list front.text rest front.parts;
          }
    ]

-- a fault that is read is the first fault
pub fault_found : {E A : Type 0} (form : Form E A) (list : List ℕ) (fault : E) → read form list ≡ Err fault → HasFault form list fault
unfolding read after fault_at
fault_found (whole y) list fault e = absurd (let h : Ok (y, list) ≡ Err fault = e in cc)
fault_found (field width short rules next) list fault e =
    elim (cases_field width short rules next list) [
      | early b ↦ let h : Err short ≡ Err fault = rw b at e in record { row = []; rest = list; parts = refl; due = field width short rules next; left = refl; breaks = rw b (ap Some (err_is short fault h)) }
      | broken f b m ↦ let h : Err f ≡ Err fault = rw (b, m) at e in record { row = []; rest = list; parts = refl; due = field width short rules next; left = refl; breaks = rw (b, m) (ap Some (err_is f fault h)) }
      | passed b m ↦
          let h : read (next (take width list)) (drop width list) ≡ Err fault = rw (b, m) at e in
          let behind = fault_found (next (take width list)) (drop width list) fault h in
          let len : length (take width list) ≡ width = omega (arith, length-take width list, ltb-false _ _ b) in
          record {
            row = take width list ∷ behind.row;
            rest = behind.rest;
            parts = joined_parts width list (joined behind.row) behind.rest behind.parts;
            due = behind.due;
            left = more width short rules next (take width list) behind.row behind.due len m behind.left;
            breaks = behind.breaks;
          }
    ]

-- No spelling begins another, and a list spells one value at most.
pub one_value : {E A : Type 0} (form : Form E A) (a b r s : List ℕ) (x y : A) → Spells form a x → Spells form b y → a ++ r ≡ b ++ s → (a ≡ b) × (x ≡ y)
one_value {E} form a b r s x y p q e =
    let t = ok_pair {E = E} x y r s (sym (reads_spelled form a x r p) ∙ ap (read form) e ∙ reads_spelled form b y s q) in
    (append_cancel_right a b s (ap (λ t. a ++ t) (sym t.1) ∙ e), t.0)

-- the two steps of reading one format after another
pub record Steps {E A B : Type 0} (form : Form E A) (f : A → Form E B) (list : List ℕ) (y : B) (rest : List ℕ) : Type 0 where
  pub value : A
  pub behind : List ℕ
  pub first : read form list ≡ Ok (value, behind)
  pub second : read (f value) behind ≡ Ok (y, rest)

steps_of : {E A B : Type 0} (form : Form E A) (f : A → Form E B) (list : List ℕ) (y : B) (rest : List ℕ) (r : Result (A × List ℕ) E) → read form list ≡ r → (r then λ x. read (f x.0) x.1) ≡ Ok (y, rest) → Steps form f list y rest
steps_of form f list y rest (Ok x) is e = record { value = x.0; behind = x.1; first = is; second = e }
steps_of form f list y rest (Err d) is e = absurd (let h : Err d ≡ Ok (y, rest) = e in cc)

pub steps : {E A B : Type 0} (form : Form E A) (f : A → Form E B) (list : List ℕ) (y : B) (rest : List ℕ) → read (bind form f) list ≡ Ok (y, rest) → Steps form f list y rest
steps form f list y rest e = steps_of form f list y rest (read form list) refl (sym (read_then form f list) ∙ e)

-- one field that was read
pub record Took {E A : Type 0} (width : ℕ) (rules : List ℕ → List (Rule E)) (value : List ℕ → A) (list : List ℕ) (x : A) (rest : List ℕ) : Type 0 where
  pub bytes : List ℕ
  pub parts : list ≡ bytes ++ rest
  pub size : length bytes ≡ width
  pub met : first_broken (rules bytes) ≡ None
  pub is : value bytes ≡ x

pub took : {E A : Type 0} (width : ℕ) (short : E) (rules : List ℕ → List (Rule E)) (value : List ℕ → A) (list : List ℕ) (x : A) (rest : List ℕ) → read (field width short rules (λ bytes. whole (value bytes))) list ≡ Ok (x, rest) → Took width rules value list x rest
unfolding read
took {E} width short rules value list x rest e =
    elim (cases_field width short rules (λ bytes. whole (value bytes)) list) [
      | early b ↦ absurd (let h : Err short ≡ Ok (x, rest) = rw b at e in cc)
      | broken f b m ↦ absurd (let h : Err f ≡ Ok (x, rest) = rw (b, m) at e in cc)
      | passed b m ↦
          let h : (let r : Result _ E = Ok (value (take width list), drop width list) in r) ≡ Ok (x, rest) = rw (b, m) at e in
          let p = ok_pair {E = E} (value (take width list)) x (drop width list) rest h in
          let width_taken : length (take width list) ≡ width = omega (arith, length-take width list, ltb-false _ _ b) in
          record {
            bytes = take width list;
            parts = sym (take-append-drop width list) ∙ ap (λ t. take width list ++ t) p.1;
            size = width_taken;
            met = m;
            is = p.0;
          }
    ]

-- a field that is written is read again
pub again : {E A : Type 0} (width : ℕ) (short : E) (rules : List ℕ → List (Rule E)) (value : List ℕ → A) (bytes rest : List ℕ) → length bytes ≡ width → first_broken (rules bytes) ≡ None → read (field width short rules (λ bytes. whole (value bytes))) (bytes ++ rest) ≡ Ok (value bytes, rest)
unfolding read
again width short rules value bytes rest len met = passes width short rules (λ bytes. whole (value bytes)) bytes rest len met

-- ---- the outcome of a list

either_of : {E A : Type 0} (form : Form E A) (list : List ℕ) (r : Result (A × List ℕ) E) → read form list ≡ r → Begins form list ⊎ ((fault : E) × HasFault form list fault)
either_of form list (Ok x) is = let front = spelled_front form list x.0 x.1 is in inl (record { value = x.0; text = front.text; rest = x.1; spells = front.spells; parts = front.parts })
either_of form list (Err fault) is = inr (fault, fault_found form list fault is)

pub either : {E A : Type 0} (form : Form E A) (list : List ℕ) → Begins form list ⊎ ((fault : E) × HasFault form list fault)
either form list = either_of form list (read form list) refl

pub apart : {E A : Type 0} (form : Form E A) (list : List ℕ) (fault : E) → Begins form list → HasFault form list fault → ⊥
apart {E} {A} form list fault b h =
    let found = ap (read form) b.parts ∙ reads_spelled form b.text b.value b.rest b.spells in
    let no : (let q : Result (A × List ℕ) E = Ok (b.value, b.rest) in q) ≡ Err fault = sym found ∙ reads_fault form list fault h in cc

pub one_fault : {E A : Type 0} (form : Form E A) (list : List ℕ) (f g : E) → HasFault form list f → HasFault form list g → f ≡ g
one_fault {E} {A} form list f g h k =
    let both : (let q : Result (A × List ℕ) E = Err f in q) ≡ Err g = sym (reads_fault form list f h) ∙ reads_fault form list g k in cc
