-- The numbers of made blocks by their names, with one block more; and a word that is no name.
use Rattle.std.proofs.Common.{◌≡◌, ℕ, suc, ◌+◌, ◌<◌, Bool, true, false, cond, List, [], ◌∷◌, ◌++◌, length, Option, Some, None, position, refl, sym, ap, ◌∙◌, inl, inr, subst, take, get_or, arith}
use Rattle.std.specs.Prelude.{is_some, All}
use Rattle.std.specs.BTreeMap.{BTreeMap, get, Updates}
use Rattle.std.specs.Cmp.Lexicographic.{slice_cmp}
use Rattle.std.specs.List.{position_from}
use Rattle.std.specs.Ordering.{nat_cmp}
use Rattle.std.specs.Str.{bytes_eq}
use Rattle.std.proofs.lemmas.Bool.{cases_Bool}
use Rattle.std.proofs.lemmas.Iterator.Adapters.{position_from-zero}
use Rattle.std.proofs.lemmas.List.{length-take, take_more}
use Rattle.std.proofs.lemmas.List.Elements.{All-push}
use Rattle.std.proofs.lemmas.Map.Text.{is_eq-slice_cmp}
use Rattle.std.proofs.lemmas.Slice.Eq.{bytes_eq-Decides}
use Rattle.sp_names.specs.Labels.{IsNameLength}
use Rattle.sp_play.specs.Commands.{is_word}
use Rattle.sp_gossip.specs.Named.{AreNumbered}
use Rattle.sp_gossip.specs.declared.script_line.Made.{Made}

-- the place in a list with one more element
abbrev or_last : Option ℕ → Bool → ℕ → Option ℕ
or_last None b n = cond b (Some n) None
or_last (Some i) b n = Some i

push_from : {X : Type 0} (test : X → Bool) (i : ℕ) (xs : List X) (y : X) → position_from test i (xs ++ y ∷ []) ≡ or_last (position_from test i xs) (test y) (i + length xs)
push_from test i [] y = let e : i + 0 ≡ i = omega arith in rw e refl
push_from test i (x ∷ xs) y = elim (cases_Bool (test x)) [
  | inl e ↦ rw (e) refl
  | inr e ↦ (let next : i + 1 + length xs ≡ i + suc (length xs) = omega arith in rw (e, push_from test (i + 1) xs y, next) refl)
]

push : {X : Type 0} (test : X → Bool) (xs : List X) (y : X) → position test (xs ++ y ∷ []) ≡ or_last (position test xs) (test y) (length xs)
push {X} test xs y =
    let zero : 0 + length xs ≡ length xs = omega arith in
    position_from-zero test (xs ++ y ∷ []) ∙ push_from test 0 xs y ∙ ap (or_last (position_from test 0 xs) (test y)) zero ∙ sym (ap (λ (o : Option ℕ). or_last o (test y) (length xs)) (position_from-zero test xs))

or_none : (o : Option ℕ) (n : ℕ) → or_last o false n ≡ o
or_none None n = refl
or_none (Some i) n = refl

or_some : (o : Option ℕ) (b : Bool) (n : ℕ) → is_some o ≡ true → or_last o b n ≡ o
or_some None b n e = cc
or_some (Some i) b n e = refl

none_is : (o : Option ℕ) → is_some o ≡ false → o ≡ None
none_is None e = refl
none_is (Some i) e = cc

equal : (xs ys : List ℕ) → bytes_eq xs ys ≡ true → xs ≡ ys
equal xs ys e = (bytes_eq-Decides xs ys).0 e

flipped : (xs ys : List ℕ) → bytes_eq xs ys ≡ false → bytes_eq ys xs ≡ false
flipped xs ys e = elim (cases_Bool (bytes_eq ys xs)) [
  | inl is ↦ (let no : bytes_eq xs ys ≡ true = (bytes_eq-Decides xs ys).1 (sym (equal ys xs is)) in cc)
  | inr is ↦ is
]

module _ (m : BTreeMap (List ℕ) ℕ) (blocks : List Made) (made : Made) (h : AreNumbered m blocks) (short : IsNameLength (length made.name)) where
  abbrev place : List ℕ → Option ℕ
  place name = position (λ (x : Made). is_word x.name name) blocks

  pushed : (name : List ℕ) → position (λ (x : Made). is_word x.name name) (blocks ++ made ∷ []) ≡ or_last (place name) (is_word made.name name) (length blocks)
  pushed name = push (λ (x : Made). is_word x.name name) blocks made

  -- a block that comes later doesn't take a name
  stays : is_some (get (slice_cmp nat_cmp) m made.name) ≡ true → (name : List ℕ) → or_last (place name) (is_word made.name name) (length blocks) ≡ place name
  stays there name = elim (cases_Bool (is_word made.name name)) [
    | inl e ↦ (
        let at : is_some (place made.name) ≡ true = sym (ap is_some (h.first made.name)) ∙ there in
        or_some (place name) (is_word made.name name) (length blocks) (ap (λ (x : List ℕ). is_some (place x)) (equal name made.name e) ∙ at))
    | inr e ↦ (ap (λ (b : Bool). or_last (place name) b (length blocks)) e ∙ or_none (place name) (length blocks))
  ]

  pub same_name : is_some (get (slice_cmp nat_cmp) m made.name) ≡ true → AreNumbered m (blocks ++ made ∷ [])
  same_name there = record {
    first = λ name. h.first name ∙ sym (pushed name ∙ stays there name);
    short = All-push (λ (x : Made). IsNameLength (length x.name)) blocks made h.short short;
  }

  -- another name has the number of the block that comes last
  comes : (n : BTreeMap (List ℕ) ℕ) → is_some (get (slice_cmp nat_cmp) m made.name) ≡ false → Updates (slice_cmp nat_cmp) m n made.name (Some (length blocks))
      → (name : List ℕ) → get (slice_cmp nat_cmp) n name ≡ or_last (place name) (is_word made.name name) (length blocks)
  comes n none up name = elim (cases_Bool (is_word made.name name)) [
    | inl e ↦ (
        let is : name ≡ made.name = equal name made.name e in
        let absent : place name ≡ None = sym (h.first name) ∙ ap (get (slice_cmp nat_cmp) m) is ∙ none_is (get (slice_cmp nat_cmp) m made.name) none in
        let here : bytes_eq made.name name ≡ true = (bytes_eq-Decides made.name name).1 (sym is) in
        up.0 name ∙ ap (λ (b : Bool). cond b (Some (length blocks)) (get (slice_cmp nat_cmp) m name)) (is_eq-slice_cmp made.name name ∙ here)
        ∙ sym (ap (λ (o : Option ℕ). or_last o (is_word made.name name) (length blocks)) absent ∙ ap (λ (b : Bool). or_last None b (length blocks)) e))
    | inr e ↦ (
        up.0 name ∙ ap (λ (b : Bool). cond b (Some (length blocks)) (get (slice_cmp nat_cmp) m name)) (is_eq-slice_cmp made.name name ∙ flipped name made.name e)
        ∙ h.first name ∙ sym (ap (λ (b : Bool). or_last (place name) b (length blocks)) e ∙ or_none (place name) (length blocks)))
  ]

  pub new_name : (n : BTreeMap (List ℕ) ℕ) → is_some (get (slice_cmp nat_cmp) m made.name) ≡ false → Updates (slice_cmp nat_cmp) m n made.name (Some (length blocks)) → AreNumbered n (blocks ++ made ∷ [])
  new_name n none up = record {
    first = λ name. comes n none up name ∙ sym (pushed name);
    short = All-push (λ (x : Made). IsNameLength (length x.name)) blocks made h.short short;
  }

module _ (m : BTreeMap (List ℕ) ℕ) (blocks : List Made) (i : ℕ) (made : Made) (within : i < length blocks) (there : made ≡ get_or blocks i made) (h : AreNumbered m (take i blocks)) (short : IsNameLength (length made.name)) where
  more : take (i + 1) blocks ≡ take i blocks ++ made ∷ []
  more = take_more blocks i made within ∙ ap (λ (x : Made). take i blocks ++ x ∷ []) (sym there)

  -- the next block has the name of an earlier one
  pub named_before : is_some (get (slice_cmp nat_cmp) m made.name) ≡ true → AreNumbered m (take (i + 1) blocks)
  named_before some = subst (AreNumbered m) (sym more) (same_name m (take i blocks) made h short some)

  -- it has a name of its own
  pub named_now : (n : BTreeMap (List ℕ) ℕ) → is_some (get (slice_cmp nat_cmp) m made.name) ≡ false → Updates (slice_cmp nat_cmp) m n made.name (Some i) → AreNumbered n (take (i + 1) blocks)
  named_now n none up =
      let many : length (take i blocks) ≡ i = omega (arith, length-take i blocks, within) in
      subst (AreNumbered n) (sym more) (new_name m (take i blocks) made h short n none (subst (λ (k : ℕ). Updates (slice_cmp nat_cmp) m n made.name (Some k)) (sym many) up))

-- a word that no name can be is none
none_from : (i : ℕ) (blocks : List Made) (name : List ℕ) → (IsNameLength (length name) → ⊥) → All (λ (made : Made). IsNameLength (length made.name)) blocks → position_from (λ (x : Made). is_word x.name name) i blocks ≡ None
none_from i [] name other short = refl
none_from i (made ∷ blocks) name other short = elim (cases_Bool (is_word made.name name)) [
  | inl e ↦ (absurd (other (subst (λ (x : List ℕ). IsNameLength (length x)) (sym (equal name made.name e)) (short 0 made (omega arith)))))
  | inr e ↦ (ap (λ (b : Bool). cond b (Some i) (position_from (λ (x : Made). is_word x.name name) (i + 1) blocks)) e ∙ none_from (i + 1) blocks name other (λ k d lt. short (suc k) d (omega (arith, lt))))
]

pub no_name : (m : BTreeMap (List ℕ) ℕ) (blocks : List Made) (name : List ℕ) → AreNumbered m blocks → (IsNameLength (length name) → ⊥) → None ≡ position (λ (x : Made). is_word x.name name) blocks
no_name m blocks name h other = sym (position_from-zero (λ (x : Made). is_word x.name name) blocks ∙ none_from 0 blocks name other h.short)
