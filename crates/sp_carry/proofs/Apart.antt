-- The inputs of a transaction spend different outpoints, since these ascend.
use Rattle.std.proofs.Common.{◌≡◌, ℕ, zero, suc, Bool, true, false, cond, eqb, ltb, ◌<◌, ◌≤◌, List, [], ◌∷◌, take, length, get_or, Option, Some, None, refl, sym, ap, ◌∙◌, arith}
use Rattle.std.specs.Ordering.{is_lt, nat_cmp, ordering_then}
use Rattle.std.specs.declared.cmp.Ordering.TheVariants.{Equal, Greater, Less}
use Rattle.std.proofs.lemmas.Bool.{false≢true, ltb-true, eqb-true, and_parts}
use Rattle.sp_form.specs.Turns.{InTurn}
use Rattle.sp_ids.specs.declared.outpoint.Outpoint.{Outpoint}
use Rattle.sp_tx.specs.declared.parts.Input.{Input}
use Rattle.sp_tx.specs.Format.{last_outpoint}
use Rattle.sp_ids.specs.Outpoints.{outpoint_cmp}
use Rattle.sp_tx.specs.Parts.{Transaction}
use Rattle.sp_tx.specs.Spelling.{IsInput, IsTx}
use Rattle.sp_carry.specs.Payment.{is_same_outpoint}
use Rattle.sp_carry.specs.Lookups.{is_spent_by, AreApart}

abbrev pub Above : Outpoint → Outpoint → Type 0
Above a b = (a.tx ≤ b.tx) × (a.tx ≡ b.tx → a.index < b.index)

below_index : (x y : ℕ) → is_lt (nat_cmp x y) ≡ true → x < y
below_index x y h = at (ltb x y) (eqb x y) refl h
  where
    at : (l e : Bool) → ltb x y ≡ l → is_lt (cond l Less (cond e Equal Greater)) ≡ true → x < y
    at true e p h = ltb-true x y p
    at false true p h = absurd (false≢true h)
    at false false p h = absurd (false≢true h)

above_next : (a b : Outpoint) → is_lt (outpoint_cmp a b) ≡ true → Above a b
above_next a b h = at (ltb a.tx b.tx) (eqb a.tx b.tx) refl refl h
  where
    at : (l e : Bool) → ltb a.tx b.tx ≡ l → eqb a.tx b.tx ≡ e
        → is_lt (ordering_then (cond l Less (cond e Equal Greater)) (nat_cmp a.index b.index)) ≡ true → Above a b
    at true e p q h = (let lt : a.tx < b.tx = ltb-true a.tx b.tx p in (omega (arith, lt), λ same. absurd (omega (arith, lt, same))))
    at false true p q h = (let same : a.tx ≡ b.tx = eqb-true a.tx b.tx q in (omega (arith, same), λ _. below_index a.index b.index h))
    at false false p q h = absurd (false≢true h)

above_more : (a b c : Outpoint) → Above a b → Above b c → Above a c
above_more a b c p q = (
  omega (arith, p.0, q.0),
  λ same. let e : a.tx ≡ b.tx = omega (arith, p.0, q.0, same) in let f : b.tx ≡ c.tx = omega (arith, p.0, q.0, same) in
      let i : a.index < b.index = p.1 e in let j : b.index < c.index = q.1 f in omega (arith, i, j),
)

above_other : (a b : Outpoint) → Above a b → is_same_outpoint b a ≡ false
above_other a b p = at (is_same_outpoint b a) refl
  where
    at : (c : Bool) → is_same_outpoint b a ≡ c → c ≡ false
    at false e = refl
    at true e =
        let parts : (eqb b.tx a.tx ≡ true) × (eqb b.index a.index ≡ true) = and_parts (eqb b.tx a.tx) (eqb b.index a.index) e in
        let t : b.tx ≡ a.tx = eqb-true b.tx a.tx parts.0 in
        let i : b.index ≡ a.index = eqb-true b.index a.index parts.1 in
        let lt : a.index < b.index = p.1 (sym t) in absurd (omega (arith, lt, i))

-- each input of a list that goes on behind an outpoint is above it
all_above : (o : Outpoint) (inputs : List Input) (i : ℕ) (d : Input) → InTurn IsInput last_outpoint (Some o) inputs → i < length inputs
    → Above o (get_or inputs i d).from
all_above o [] i d turn lt = absurd (omega (arith, lt))
all_above o (x ∷ xs) zero d turn lt = above_next o x.from turn.0.order
all_above o (x ∷ xs) (suc i) d turn lt =
    above_more o x.from (get_or xs i d).from (above_next o x.from turn.0.order) (all_above x.from xs i d turn.1 (omega (arith, lt)))

apart_from : (before : Option Outpoint) (inputs : List Input) (i : ℕ) (d : Input) → InTurn IsInput last_outpoint before inputs → i < length inputs
    → is_spent_by (get_or inputs i d).from (take i inputs) ≡ false
apart_from before [] i d turn lt = absurd (omega (arith, lt))
apart_from before (x ∷ xs) zero d turn lt = refl
apart_from before (x ∷ xs) (suc i) d turn lt =
    rw (above_other x.from (get_or xs i d).from (all_above x.from xs i d turn.1 (omega (arith, lt)))) (apart_from (Some x.from) xs i d turn.1 (omega (arith, lt)))

pub inputs_apart : (t : Transaction) → IsTx t → AreApart t.inputs
inputs_apart t is = λ i input lt e.
    ap (λ (x : Input). is_spent_by x.from (take i t.inputs)) e ∙ apart_from None t.inputs i input is.inputs lt
