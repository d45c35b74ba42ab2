-- Inputs that spend different outputs.
use Rattle.std.proofs.Common.{◌≡◌, ◌||◌, ◌&&◌, ℕ, Bool, true, false, List, [], ◌∷◌, ◌++◌, map, refl, subst, sym, ap₂, ◌∙◌, eqb, inl, inr}
use Rattle.std.specs.BTreeSet.{BTreeSet, contains, Updates}
use Rattle.std.specs.List.{list_any}
use Rattle.std.proofs.lemmas.Bool.{cases_Bool, eqb-true, eq-eqb}
use Rattle.std.proofs.lemmas.List.{map-append}
use Rattle.sp_block.specs.Seen.{HasOutpoints}
use Rattle.sp_block.proofs.Sets.{outpoint_added}
use Rattle.sp_ids.specs.declared.outpoint.Outpoint.{Outpoint}
use Rattle.sp_tx.specs.declared.parts.Input.{Input}
use Rattle.sp_ids.specs.Outpoints.{outpoint_cmp, same_outpoint}
use Rattle.sp_play.specs.Judging.{is_spent}
use Rattle.sp_play.specs.Spent.{AreApart, HasSpent}

flip_eqb : (m n : ℕ) → eqb m n ≡ true → eqb n m ≡ true
flip_eqb m n e = eq-eqb n m (sym (eqb-true m n e))

pub same_eqb : (m n : ℕ) (b : Bool) → eqb m n ≡ b → eqb n m ≡ b
same_eqb m n true e = flip_eqb m n e
same_eqb m n false e = elim (cases_Bool (eqb n m)) [ inl back ↦ absurd (let there = flip_eqb n m back in cc) | inr apart ↦ apart ]

pub same_flip : (a b : Outpoint) → same_outpoint a b ≡ same_outpoint b a
same_flip a b = ap₂ (λ (x y : Bool). x && y) (sym (same_eqb a.tx b.tx (eqb a.tx b.tx) refl)) (sym (same_eqb a.index b.index (eqb a.index b.index) refl))

spent_push : (found : List Input) (x : Input) (from : Outpoint) → is_spent (found ++ x ∷ []) from ≡ (is_spent found from || same_outpoint x.from from)
spent_push [] x from = elim (cases_Bool (same_outpoint x.from from)) [ inl e ↦ rw e refl | inr e ↦ rw e refl ]
spent_push (y ∷ found) x from = elim (cases_Bool (same_outpoint y.from from)) [ inl e ↦ rw e refl | inr e ↦ rw e (spent_push found x from) ]

pub neither : (b c : Bool) → (b || c) ≡ false → (b ≡ false) × (c ≡ false)
neither true c e = cc
neither false c e = (refl, e)

pub apart_push : (found : List Input) (x : Input) → AreApart found → is_spent found x.from ≡ false → AreApart (found ++ x ∷ [])
apart_push [] x h new = (refl, tt)
apart_push (y ∷ found) x h new =
    let both = neither (same_outpoint y.from x.from) (is_spent found x.from) new in
    let last : same_outpoint x.from y.from ≡ false = same_flip x.from y.from ∙ both.0 in
    let first : is_spent (found ++ x ∷ []) y.from ≡ false = spent_push found x y.from ∙ rw (h.0, last) refl in
    (first, apart_push found x h.1 both.1)

-- ---- the set of what is spent

any_flip : (found : List Input) (from : Outpoint) → list_any (same_outpoint from) (map (λ (input : Input). input.from) found) ≡ is_spent found from
any_flip [] from = refl
any_flip (x ∷ found) from = rw (same_flip from x.from, any_flip found from) refl

-- a look-up in the set
pub spent_is : (set : BTreeSet Outpoint) (found : List Input) (from : Outpoint) → HasSpent set found → contains outpoint_cmp set from ≡ is_spent found from
spent_is set found from h = h from ∙ any_flip found from

-- the set with one more
pub spent_more : (old new : BTreeSet Outpoint) (found : List Input) (x : Input) → HasSpent old found → Updates outpoint_cmp old new x.from true → HasSpent new (found ++ x ∷ [])
spent_more old new found x h u =
    subst (HasOutpoints new) (sym (map-append (λ (input : Input). input.from) found (x ∷ []))) (outpoint_added old new (map (λ (input : Input). input.from) found) x.from h u)
