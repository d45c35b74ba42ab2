-- Formats whose faults are mapped to others, and rules that are judged where they stand.
use Rattle.std.proofs.Common.{◌≡◌, ℕ, Bool, true, false, cond, ltb, List, [], ◌∷◌, ◌++◌, length, map, take, drop, Option, Some, None, Result, Ok, Err, refl, sym, ap, subst, ◌∙◌, arith}
use Rattle.std.proofs.lemmas.Bool.{le-ltb}
use Rattle.sp_form.specs.Form.{bind, Form, whole, field, Rule, first_broken, map_fault, map_rule_fault}
use Rattle.sp_form.specs.Reading.{read, unless}
use Rattle.sp_form.specs.Values.{rules_form}
use Rattle.sp_form.proofs.FormLaws.{ok_pair, read_then, steps}
use Rattle.sp_form.proofs.Taking.{Spelled, Takes}

-- the same answer, its fault mapped
abbrev pub mapped : {E F X : Type 0} → (E → F) → Result X E → Result X F
mapped fault_of (Ok x) = Ok x
mapped fault_of (Err e) = Err (fault_of e)

abbrev mapped_option : {E F : Type 0} → (E → F) → Option E → Option F
mapped_option fault_of None = None
mapped_option fault_of (Some e) = Some (fault_of e)

mapped_choice : {E F : Type 0} (fault_of : E → F) (b : Bool) (rest : Option F) (rest' : Option E) (e : E) → rest ≡ mapped_option fault_of rest' → cond b rest (Some (fault_of e)) ≡ mapped_option fault_of (cond b rest' (Some e))
mapped_choice fault_of true rest rest' e h = h
mapped_choice fault_of false rest rest' e h = refl

mapped_broken : {E F : Type 0} (fault_of : E → F) (rs : List (Rule E)) → first_broken (map (map_rule_fault fault_of) rs) ≡ mapped_option fault_of (first_broken rs)
mapped_broken fault_of [] = refl
mapped_broken fault_of (r ∷ rs) = mapped_choice fault_of r.met (first_broken (map (map_rule_fault fault_of) rs)) (first_broken rs) r.fault (mapped_broken fault_of rs)

mapped_of : {E F X : Type 0} (fault_of : E → F) (b : Bool) (short : E) (o : Option E) (r : Result X E) → cond b (Err (fault_of short)) (unless (mapped_option fault_of o) (mapped fault_of r)) ≡ mapped fault_of (cond b (Err short) (unless o r))
mapped_of fault_of true short o r = refl
mapped_of fault_of false short None r = refl
mapped_of fault_of false short (Some e) r = refl

pub read_map_fault : {E F A : Type 0} (fault_of : E → F) (form : Form E A) (list : List ℕ) → read (map_fault fault_of form) list ≡ mapped fault_of (read form list)
unfolding read map_fault
read_map_fault fault_of (whole x) list = refl
read_map_fault fault_of (field width short rules next) list =
    rw (read_map_fault fault_of (next (take width list)) (drop width list), mapped_broken fault_of (rules (take width list)))
    (mapped_of fault_of (ltb (length list) width) short (first_broken (rules (take width list))) (read (next (take width list)) (drop width list)))

-- rules of no byte are judged where they stand
pub read_rules : {E A : Type 0} (short : E) (rules : List (Rule E)) (next : Form E A) (list : List ℕ) → read (rules_form short rules next) list ≡ unless (first_broken rules) (read next list)
unfolding read
read_rules short rules next list =
    let long : ltb (length list) 0 ≡ false = le-ltb _ _ (omega arith) in
    rw long refl

-- ---- what these spell

was_ok : {E F X : Type 0} (fault_of : E → F) (r : Result X E) (x : X) → mapped fault_of r ≡ Ok x → r ≡ Ok x
was_ok fault_of (Ok y) x e = cc
was_ok fault_of (Err d) x e = absurd cc

pub map_fault_spelled : {E F A : Type 0} (fault_of : E → F) (form : Form E A) (text : A → List ℕ) (meets : A → Type 0) → Spelled form text meets → Spelled (map_fault fault_of form) text meets
map_fault_spelled fault_of form text meets s = record {
  takes = λ list x rest bytes e. s.takes list x rest bytes (was_ok fault_of (read form list) (x, rest) (sym (read_map_fault fault_of form list) ∙ e));
  again = λ x rest m. read_map_fault fault_of form (text x ++ rest) ∙ ap (mapped fault_of) (s.again x rest m);
}

unless_ok : {E X : Type 0} (o : Option E) (r : Result X E) (x : X) → unless o r ≡ Ok x → (o ≡ None) × (r ≡ Ok x)
unless_ok None r x e = (refl, e)
unless_ok (Some f) r x e = absurd (let h : Err f ≡ Ok x = e in cc)

pub rules_spelled : {E A : Type 0} (short : E) (rules : List (Rule E)) (next : Form E A) (text : A → List ℕ) (meets : A → Type 0) → Spelled next text meets → Spelled (rules_form short rules next) text (λ x. (first_broken rules ≡ None) × meets x)
rules_spelled short rules next text meets s = record {
  takes = λ list x rest bytes e.
      let u = unless_ok (first_broken rules) (read next list) (x, rest) (sym (read_rules short rules next list) ∙ e) in
      let t = s.takes list x rest bytes u.1 in
      (t.0, (u.0, t.1));
  again = λ x rest m. read_rules short rules next (text x ++ rest) ∙ rw m.0 (s.again x rest m.1);
}

-- A value, and rules of no byte that are judged behind it.
pub ruled_spelled : {E A : Type 0} (form : Form E A) (short : E) (rules : A → List (Rule E)) (text : A → List ℕ) (meets : A → Type 0) → Spelled form text meets → Spelled (bind form (λ x. rules_form short (rules x) (whole x))) text (λ x. meets x × (first_broken (rules x) ≡ None))
unfolding read
ruled_spelled {E} {A} form short rules text meets s = record {
  takes = λ list x rest bytes e.
      let a = steps form (λ v. rules_form short (rules v) (whole v)) list x rest e in
      let first = s.takes list a.value a.behind bytes a.first in
      let u = unless_ok (first_broken (rules a.value)) (Ok (a.value, a.behind)) (x, rest) (sym (read_rules short (rules a.value) (whole a.value) a.behind) ∙ a.second) in
      let p = ok_pair {E = E} a.value x a.behind rest u.1 in
      subst (λ (r : List ℕ). Takes list (text x) r × (meets x × (first_broken (rules x) ≡ None))) p.1
      (subst (λ (v : A). Takes list (text v) a.behind × (meets v × (first_broken (rules v) ≡ None))) p.0 (first.0, (first.1, u.0)));
  again = λ x rest m.
      read_then form (λ v. rules_form short (rules v) (whole v)) (text x ++ rest)
      ∙ rw (s.again x rest m.0) (read_rules short (rules x) (whole x) rest ∙ rw m.1 refl);
}
