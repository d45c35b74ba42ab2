-- Reading values of one kind one after another, as a loop does.
use Rattle.std.proofs.Common.{◌≡◌, ℕ, suc, ◌+◌, ◌-◌, ◌<◌, ◌≤◌, List, [], ◌∷◌, ◌++◌, Result, Ok, Err, refl, sym, ap, ◌∙◌, append_assoc, arith}
use Rattle.std.proofs.lemmas.List.{append-nil}
use Rattle.sp_form.specs.declared.fault.ReadFault.{ReadFault}
use Rattle.sp_form.specs.declared.fault.ReadFault.TheVariants.{Fault, Memory}
use Rattle.sp_form.specs.Form.{Form, rows}
use Rattle.sp_form.specs.Reading.{read, ◌then◌, Fails}
use Rattle.sp_form.proofs.FormLaws.{read_then}

-- what was read before, and what is still read
abbrev pub with_front : {E X : Type 0} → List X → Result (List X × List ℕ) E → Result (List X × List ℕ) E
with_front front r = r then λ x. Ok (front ++ x.0, x.1)

regroup : {E X : Type 0} (front : List X) (x : X) (r : Result (List X × List ℕ) E) → with_front front (r then λ y. Ok (x ∷ y.0, y.1)) ≡ with_front (front ++ x ∷ []) r
regroup front x (Ok y) = ap (λ (xs : List _). Ok (xs, y.1)) (simp append_assoc)
regroup front x (Err e) = refl

module _ {E A S : Type 0} (item : S → Form E A) (carried : S → A → S) where
  -- the first value, and the others behind it
  first_row : (n : ℕ) (seen : S) (list : List ℕ) → read (rows item carried (suc n) seen) list ≡ (read (item seen) list then λ x. (read (rows item carried n (carried seen x.0)) x.1 then λ y. Ok (x.0 ∷ y.0, y.1)))
  unfolding rows read
  first_row n seen list = simp read_then

  pub row_goes_on : (front : List A) (count i : ℕ) (seen : S) (list : List ℕ) (x : A) (after : List ℕ) (total : Result (List A × List ℕ) E) → i < count → read (item seen) list ≡ Ok (x, after)
      → with_front front (read (rows item carried (count - i) seen) list) ≡ total → with_front (front ++ x ∷ []) (read (rows item carried (count - (i + 1)) (carried seen x)) after) ≡ total
  row_goes_on front count i seen list x after total lt h so_far =
      let k : count - i ≡ suc (count - (i + 1)) = omega arith in
      let one : with_front front (read (rows item carried (count - i) seen) list) ≡ with_front (front ++ x ∷ []) (read (rows item carried (count - (i + 1)) (carried seen x)) after) =
      rw (k, first_row (count - (i + 1)) seen list, h) (regroup front x (read (rows item carried (count - (i + 1)) (carried seen x)) after)) in
      sym one ∙ so_far

  pub row_stops : (e : ReadFault E) (front : List A) (count i : ℕ) (seen : S) (list : List ℕ) (total : Result (List A × List ℕ) E) → i < count → Fails e (read (item seen) list)
      → with_front front (read (rows item carried (count - i) seen) list) ≡ total → Fails e total
  row_stops Memory front count i seen list total lt h so_far = tt
  row_stops (Fault fault) front count i seen list total lt h so_far =
      let k : count - i ≡ suc (count - (i + 1)) = omega arith in
      let one : with_front front (read (rows item carried (count - i) seen) list) ≡ Err fault = rw (k, first_row (count - (i + 1)) seen list, h) refl in
      sym so_far ∙ one

  pub row_ends : (front : List A) (count i : ℕ) (seen : S) (list : List ℕ) (total : Result (List A × List ℕ) E) → count ≤ i → with_front front (read (rows item carried (count - i) seen) list) ≡ total → total ≡ Ok (front, list)
  unfolding rows read
  row_ends front count i seen list total le so_far =
      let k : count - i ≡ 0 = omega arith in
      let one : with_front front (read (rows item carried (count - i) seen) list) ≡ Ok (front, list) = rw k (ap (λ (xs : List A). Ok (xs, list)) (append-nil front)) in
      sym so_far ∙ one
