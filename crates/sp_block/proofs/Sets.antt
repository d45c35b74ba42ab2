-- Look-ups in the sets of earlier ids and outpoints, and what they say of the rules.
use Rattle.std.proofs.Common.{◌≡◌, ℕ, Bool, true, false, cond, eqb, ltb, ◌+◌, ◌<◌, ◌&&◌, ◌||◌, List, [], ◌∷◌, ◌++◌, map, take, Some, None, refl, sym, ap, ◌∙◌, append_assoc, subst, arith, length, get_or}
use Rattle.std.specs.BTreeSet.{BTreeSet, contains, Updates}
use Rattle.std.specs.List.{flat_map, list_any}
use Rattle.std.specs.Ordering.{is_eq, nat_cmp, ordering_then}
use Rattle.std.specs.declared.cmp.Ordering.{Ordering}
use Rattle.std.specs.declared.cmp.Ordering.TheVariants.{Equal, Greater, Less}
use Rattle.std.proofs.lemmas.Bool.{ltb-true}
use Rattle.std.proofs.lemmas.Bool.Decides.{nat_tests}
use Rattle.std.proofs.lemmas.List.{append-nil, map-append, take_more}
use Rattle.std.proofs.lemmas.Grind.{flat_map-append}
use Rattle.std.proofs.lemmas.List.Concat.{flat_map-cons}
use Rattle.std.proofs.lemmas.List.Folds.{list_any-append}
use Rattle.sp_form.specs.Form.{first_broken}
use Rattle.sp_ids.specs.declared.outpoint.Outpoint.{Outpoint}
use Rattle.sp_tx.specs.declared.parts.Input.{Input}
use Rattle.sp_ids.specs.Outpoints.{outpoint_cmp, same_outpoint}
use Rattle.sp_tx.specs.Parts.{Transaction}
use Rattle.sp_tx.specs.Spending.{id_of}
use Rattle.sp_block.specs.declared.fault.BlockFault.TheVariants.{SameTx, SameOutpoint}
use Rattle.sp_block.specs.declared.seen.Seen.{Seen}
use Rattle.sp_block.specs.Format.{carried_rules, fits_kind, has_known_id, outpoints, shares_outpoint, with_tx}
use Rattle.sp_block.specs.Seen.{HasOutpoints, is_any_spent, Saw}

-- ---- look-ups

spent_any : (set : BTreeSet Outpoint) (spent : List Outpoint) (inputs : List Input) → HasOutpoints set spent → list_any (λ (input : Input). contains outpoint_cmp set input.from) inputs ≡ is_any_spent spent (map (λ (input : Input). input.from) inputs)
spent_any set spent [] h = refl
spent_any set spent (input ∷ inputs) h = rw (h input.from, spent_any set spent inputs h) refl

module _ (genesis : Bool) (seen : Seen) (earlier : List Transaction) (t : Transaction) (saw : Saw seen earlier) where
  shares : list_any (λ (input : Input). contains outpoint_cmp seen.outpoints input.from) t.inputs ≡ shares_outpoint earlier t
  shares = spent_any seen.outpoints (flat_map outpoints earlier) t.inputs saw.outpoints

  pub breaks_id : fits_kind genesis t ≡ true → contains nat_cmp seen.ids (id_of t) ≡ true → Some SameTx ≡ first_broken (carried_rules genesis earlier t)
  breaks_id fits has =
      let known : has_known_id earlier t ≡ true = sym (saw.ids (id_of t)) ∙ has in
      rw (fits, known) refl

  pub breaks_outpoint : fits_kind genesis t ≡ true → contains nat_cmp seen.ids (id_of t) ≡ false → list_any (λ (input : Input). contains outpoint_cmp seen.outpoints input.from) t.inputs ≡ true → Some SameOutpoint ≡ first_broken (carried_rules genesis earlier t)
  breaks_outpoint fits has spent =
      let known : has_known_id earlier t ≡ false = sym (saw.ids (id_of t)) ∙ has in
      let common : shares_outpoint earlier t ≡ true = sym shares ∙ spent in
      rw (fits, known, common) refl

  pub breaks_none : fits_kind genesis t ≡ true → contains nat_cmp seen.ids (id_of t) ≡ false → list_any (λ (input : Input). contains outpoint_cmp seen.outpoints input.from) t.inputs ≡ false → None ≡ first_broken (carried_rules genesis earlier t)
  breaks_none fits has spent =
      let known : has_known_id earlier t ≡ false = sym (saw.ids (id_of t)) ∙ has in
      let common : shares_outpoint earlier t ≡ false = sym shares ∙ spent in
      rw (fits, known, common) refl

-- ---- what an insertion adds

picked : (less same : Bool) → (less ≡ true → same ≡ false) → is_eq (cond less Less (cond same Equal Greater)) ≡ same
picked true true h = absurd (let e : true ≡ false = h refl in cc)
picked true false h = refl
picked false true h = refl
picked false false h = refl

is_eq-nat_cmp : (x y : ℕ) → is_eq (nat_cmp x y) ≡ eqb x y
is_eq-nat_cmp x y = picked (ltb x y) (eqb x y) (λ e. let h : x < y = ltb-true x y e in grind (arith, nat_tests))

eqb-flip : (x y : ℕ) → eqb x y ≡ eqb y x
eqb-flip x y = grind (arith, nat_tests)

is_eq-then : (o p : Ordering) → is_eq (ordering_then o p) ≡ (is_eq o && is_eq p)
is_eq-then Less p = refl
is_eq-then Equal p = refl
is_eq-then Greater p = refl

is_eq_same : (a b : Outpoint) → is_eq (outpoint_cmp a b) ≡ same_outpoint b a
is_eq_same a b =
    is_eq-then (nat_cmp a.tx b.tx) (nat_cmp a.index b.index)
    ∙ rw (is_eq-nat_cmp a.tx b.tx, is_eq-nat_cmp a.index b.index, eqb-flip a.tx b.tx, eqb-flip a.index b.index) refl

or_last : (p r : Bool) → cond p true r ≡ (r || (p || false))
or_last true true = refl
or_last true false = refl
or_last false true = refl
or_last false false = refl

pub outpoint_added : (old new : BTreeSet Outpoint) (spent : List Outpoint) (outpoint : Outpoint) → HasOutpoints old spent → Updates outpoint_cmp old new outpoint true → HasOutpoints new (spent ++ outpoint ∷ [])
outpoint_added old new spent outpoint h u = λ q.
    u.0 q ∙ rw (h q, is_eq_same outpoint q, list_any-append (same_outpoint q) spent (outpoint ∷ [])) (or_last (same_outpoint q outpoint) (list_any (same_outpoint q) spent))

-- the next input of a list is noted
pub outpoints_go_on : (old new : BTreeSet Outpoint) (spent : List Outpoint) (inputs : List Input) (i : ℕ) (input : Input) → i < length inputs → input ≡ get_or inputs i input → HasOutpoints old (spent ++ map (λ (input : Input). input.from) (take i inputs))
    → Updates outpoint_cmp old new input.from true → HasOutpoints new (spent ++ map (λ (input : Input). input.from) (take (i + 1) inputs))
outpoints_go_on old new spent inputs i input lt is h u =
    let more : take (i + 1) inputs ≡ take i inputs ++ input ∷ [] = take_more inputs i input lt ∙ ap (λ (x : Input). take i inputs ++ x ∷ []) (sym is) in
    let list : spent ++ map (λ (input : Input). input.from) (take (i + 1) inputs) ≡ (spent ++ map (λ (input : Input). input.from) (take i inputs)) ++ input.from ∷ [] =
    ap (λ (xs : List Input). spent ++ map (λ (input : Input). input.from) xs) more ∙ ap (λ (xs : List Outpoint). spent ++ xs) (map-append (λ (input : Input). input.from) (take i inputs) (input ∷ [])) ∙ sym (append_assoc spent (map (λ (input : Input). input.from) (take i inputs)) (input.from ∷ [])) in
    subst (λ (xs : List Outpoint). HasOutpoints new xs) (sym list) (outpoint_added old new (spent ++ map (λ (input : Input). input.from) (take i inputs)) input.from h u)

-- the id and the outpoints of one more transaction are noted
pub saw_one : (old new : Seen) (earlier : List Transaction) (t : Transaction) (id : ℕ) → id ≡ id_of t → Saw old earlier → Updates nat_cmp old.ids new.ids id true → (HasOutpoints old.outpoints (flat_map outpoints earlier) → HasOutpoints new.outpoints (flat_map outpoints earlier ++ outpoints t)) → Saw new (with_tx earlier t)
saw_one old new earlier t id is saw u more = record {
  ids = λ q.
      u.0 q ∙ rw (saw.ids q, is_eq-nat_cmp id q, eqb-flip id q, is, map-append id_of earlier (t ∷ []), list_any-append (λ other. eqb q other) (map id_of earlier) (id_of t ∷ []))
      (or_last (eqb q (id_of t)) (list_any (λ other. eqb q other) (map id_of earlier)));
  outpoints = subst (HasOutpoints new.outpoints) (sym (flat_map-append outpoints earlier (t ∷ []) ∙ ap (λ (xs : List Outpoint). flat_map outpoints earlier ++ xs) (flat_map-cons outpoints t [] ∙ append-nil (outpoints t)))) (more saw.outpoints);
}
