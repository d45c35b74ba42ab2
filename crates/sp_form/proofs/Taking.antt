-- What a format takes from the front of a list of bytes, and that what is written by it is read again.
use Rattle.std.proofs.Common.{◌≡◌, ℕ, zero, suc, List, [], ◌∷◌, ◌++◌, length, None, Ok, refl, sym, ap, subst, ◌∙◌, append_assoc, arith}
use Rattle.std.specs.List.{flat_map}
use Rattle.std.proofs.lemmas.List.Concat.{flat_map-cons}
use Rattle.sp_form.specs.Bytes.{IsBytes}
use Rattle.sp_form.specs.Form.{Form, whole, bind, rows, Rule, first_broken}
use Rattle.sp_form.specs.Reading.{read}
use Rattle.sp_form.specs.Turns.{InTurn}
use Rattle.sp_form.specs.Values.{value_form}
use Rattle.sp_form.proofs.FormLaws.{read_then, steps, took, again, ok_pair}

pub IsBytes-append_left : (a b : List ℕ) → IsBytes (a ++ b) → IsBytes a
IsBytes-append_left [] b h i = omega arith
IsBytes-append_left (x ∷ a) b h zero = h 0
IsBytes-append_left (x ∷ a) b h (suc i) = IsBytes-append_left a b (λ j. h (suc j)) i

pub IsBytes-append_right : (a b : List ℕ) → IsBytes (a ++ b) → IsBytes b
IsBytes-append_right [] b h = h
IsBytes-append_right (x ∷ a) b h = IsBytes-append_right a b (λ j. h (suc j))

-- a list is this text and bytes behind it
pub record Takes (list text rest : List ℕ) : Type 0 where
  pub parts : list ≡ text ++ rest
  pub bytes : IsBytes rest

pub Takes-then : (a x b y c : List ℕ) → Takes a x b → Takes b y c → Takes a (x ++ y) c
Takes-then a x b y c p q = record { parts = p.parts ∙ ap (λ (t : List ℕ). x ++ t) q.parts ∙ sym (append_assoc x y c); bytes = q.bytes }

-- A format's values are spelled by their texts alone: what is read off a list of bytes is the text of the
-- value, which meets the rules, and the text of a value that meets them is read again, whatever follows.
pub record Spelled {E A : Type 0} (form : Form E A) (text : A → List ℕ) (meets : A → Type 0) : Type 0 where
  pub takes : (list : List ℕ) (x : A) (rest : List ℕ) → IsBytes list → read form list ≡ Ok (x, rest) → Takes list (text x) rest × meets x
  pub again : (x : A) (rest : List ℕ) → meets x → read form (text x ++ rest) ≡ Ok (x, rest)

-- how a value of so many bytes is written
pub record Written {E A : Type 0} (width : ℕ) (value : List ℕ → A) (rules : A → List (Rule E)) (text : A → List ℕ) (meets : A → Type 0) : Type 0 where
  pub only : (bytes : List ℕ) → length bytes ≡ width → IsBytes bytes → first_broken (rules (value bytes)) ≡ None → (text (value bytes) ≡ bytes) × meets (value bytes)
  pub size : (x : A) → meets x → length (text x) ≡ width
  pub back : (x : A) → meets x → value (text x) ≡ x
  pub met : (x : A) → meets x → first_broken (rules x) ≡ None

pub value_spelled : {E A : Type 0} (width : ℕ) (short : E) (value : List ℕ → A) (rules : A → List (Rule E)) (text : A → List ℕ) (meets : A → Type 0) → Written width value rules text meets → Spelled (value_form width short value rules) text meets
value_spelled {E} {A} width short value rules text meets w = record {
  takes = λ list x rest bytes e.
      let t = took width short (λ b. rules (value b)) value list x rest e in
      let of_all : IsBytes (t.bytes ++ rest) = subst IsBytes t.parts bytes in
      let o = w.only t.bytes t.size (IsBytes-append_left t.bytes rest of_all) t.met in
      let here : Takes list (text (value t.bytes)) rest = record { parts = t.parts ∙ ap (λ (b : List ℕ). b ++ rest) (sym o.0); bytes = IsBytes-append_right t.bytes rest of_all } in
      subst (λ (y : A). Takes list (text y) rest × meets y) t.is (here, o.1);
  again = λ x rest m.
      let met : first_broken (rules (value (text x))) ≡ None = ap (λ (y : A). first_broken (rules y)) (w.back x m) ∙ w.met x m in
      again width short (λ b. rules (value b)) value (text x) rest (w.size x m) met ∙ ap (λ (y : A). Ok (y, rest)) (w.back x m);
}

-- the same, its rules said in other words
pub said_so : {E A : Type 0} (form : Form E A) (text : A → List ℕ) (meets rules : A → Type 0) → ((x : A) → meets x → rules x) → ((x : A) → rules x → meets x) → Spelled form text meets → Spelled form text rules
said_so form text meets rules to from s = record {
  takes = λ list x rest bytes e. let t = s.takes list x rest bytes e in (t.0, to x t.1);
  again = λ x rest r. s.again x rest (from x r);
}

-- One format after another. The part of the whole that the first one read is known again from the whole.
pub bind_spelled : {E A B : Type 0} (form : Form E A) (f : A → Form E B) (text : A → List ℕ) (behind : B → List ℕ) (meets : A → Type 0) (others : B → Type 0) (part : B → A)
    → Spelled form text meets → ((a : A) → meets a → Spelled (f a) behind (λ b. (part b ≡ a) × others b)) → Spelled (bind form f) (λ b. text (part b) ++ behind b) (λ b. meets (part b) × others b)
bind_spelled {E} {A} form f text behind meets others part s next = record {
  takes = λ list x rest bytes e.
      let a = steps form f list x rest e in
      let first = s.takes list a.value a.behind bytes a.first in
      let second = (next a.value first.1).takes a.behind x rest first.0.bytes a.second in
      let both = Takes-then list (text a.value) a.behind (behind x) rest first.0 second.0 in
      (subst (λ (v : A). Takes list (text v ++ behind x) rest) (sym second.1.0) both, (subst meets (sym second.1.0) first.1, second.1.1));
  again = λ x rest m.
      ap (read (bind form f)) (append_assoc (text (part x)) (behind x) rest)
      ∙ read_then form f (text (part x) ++ (behind x ++ rest))
      ∙ rw (s.again (part x) (behind x ++ rest) m.0) ((next (part x) m.0).again x rest (refl, m.1));
}

-- The last format of a row: the whole is made of its value and of what was read before.
pub last_spelled : {E A B : Type 0} (form : Form E A) (make : A → B) (text : A → List ℕ) (meets : A → Type 0) (fits : B → Type 0) (part : B → A)
    → ((a : A) → (part (make a) ≡ a) × fits (make a)) → ((b : B) → fits b → make (part b) ≡ b) → Spelled form text meets → Spelled (bind form (λ a. whole (make a))) (λ b. text (part b)) (λ b. fits b × meets (part b))
unfolding read
last_spelled {E} {A} {B} form make text meets fits part made remade s = record {
  takes = λ list x rest bytes e.
      let a = steps form (λ v. whole (make v)) list x rest e in
      let first = s.takes list a.value a.behind bytes a.first in
      let p = ok_pair {E = E} (make a.value) x a.behind rest a.second in
      let m = made a.value in
      let here : Takes list (text (part (make a.value))) a.behind × (fits (make a.value) × meets (part (make a.value))) =
      (subst (λ (v : A). Takes list (text v) a.behind) (sym m.0) first.0, (m.1, subst meets (sym m.0) first.1)) in
      subst (λ (r : List ℕ). Takes list (text (part x)) r × (fits x × meets (part x))) p.1
      (subst (λ (b : B). Takes list (text (part b)) a.behind × (fits b × meets (part b))) p.0 here);
  again = λ x rest m.
      read_then form (λ v. whole (make v)) (text (part x) ++ rest)
      ∙ rw (s.again (part x) rest m.1) (ap (λ (b : B). Ok (b, rest)) (remade x m.0));
}

-- so many values of one kind
pub record AreRows {A S : Type 0} (meets : S → A → Type 0) (carried : S → A → S) (n : ℕ) (seen : S) (xs : List A) : Type 0 where
  pub size : length xs ≡ n
  pub in_turn : InTurn meets carried seen xs

module _ {E A S : Type 0} (item : S → Form E A) (carried : S → A → S) (text : A → List ℕ) (meets : S → A → Type 0) (one : (seen : S) → Spelled (item seen) text (meets seen)) where
  row_takes : (n : ℕ) (seen : S) (list : List ℕ) (xs : List A) (rest : List ℕ) → IsBytes list → read (rows item carried n seen) list ≡ Ok (xs, rest) → Takes list (flat_map text xs) rest × AreRows meets carried n seen xs
  unfolding rows read
  row_takes zero seen list xs rest bytes e =
      let p = ok_pair {E = E} [] xs list rest e in
      subst (λ (ys : List A). Takes list (flat_map text ys) rest × AreRows meets carried 0 seen ys) p.0 (record { parts = p.1; bytes = subst IsBytes p.1 bytes }, record { size = refl; in_turn = tt })
  row_takes (suc n) seen list xs rest bytes e =
      let a = steps (item seen) (λ first. bind (rows item carried n (carried seen first)) (λ others. whole (first ∷ others))) list xs rest e in
      let b = steps (rows item carried n (carried seen a.value)) (λ others. whole (a.value ∷ others)) a.behind xs rest a.second in
      let first = (one seen).takes list a.value a.behind bytes a.first in
      let others = row_takes n (carried seen a.value) a.behind b.value b.behind first.0.bytes b.first in
      let p = ok_pair {E = E} (a.value ∷ b.value) xs b.behind rest b.second in
      let both = Takes-then list (text a.value) a.behind (flat_map text b.value) b.behind first.0 others.0 in
      subst (λ (ys : List A). Takes list (flat_map text ys) rest × AreRows meets carried (suc n) seen ys) p.0
      (subst (λ (r : List ℕ). Takes list (flat_map text (a.value ∷ b.value)) r) p.1 (rw flat_map-cons both), record { size = ap suc others.1.size; in_turn = (first.1, others.1.in_turn) })

  pub row_again : (seen : S) (xs : List A) (rest : List ℕ) → InTurn meets carried seen xs → read (rows item carried (length xs) seen) (flat_map text xs ++ rest) ≡ Ok (xs, rest)
  unfolding rows read
  row_again seen [] rest h = refl
  row_again seen (x ∷ xs) rest h =
      let regrouped : flat_map text (x ∷ xs) ++ rest ≡ text x ++ (flat_map text xs ++ rest) = ap (λ (t : List ℕ). t ++ rest) (flat_map-cons text x xs) ∙ append_assoc (text x) (flat_map text xs) rest in
      ap (read (rows item carried (suc (length xs)) seen)) regrouped
      ∙ read_then (item seen) (λ first. bind (rows item carried (length xs) (carried seen first)) (λ others. whole (first ∷ others))) (text x ++ (flat_map text xs ++ rest))
      ∙ rw ((one seen).again x (flat_map text xs ++ rest) h.0) (read_then (rows item carried (length xs) (carried seen x)) (λ others. whole (x ∷ others)) (flat_map text xs ++ rest) ∙ rw (row_again (carried seen x) xs rest h.1) refl)

  pub rows_spelled : (n : ℕ) (seen : S) → Spelled (rows item carried n seen) (flat_map text) (AreRows meets carried n seen)
  rows_spelled n seen = record {
    takes = row_takes n seen;
    again = λ xs rest h. ap (λ (k : ℕ). read (rows item carried k seen) (flat_map text xs ++ rest)) (sym h.size) ∙ row_again seen xs rest h.in_turn;
  }
