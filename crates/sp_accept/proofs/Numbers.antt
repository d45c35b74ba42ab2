-- The numbers at which a list's elements pass a test, and the numbers of carriers and of spenders.
use Rattle.std.proofs.Common.{◌≡◌, ℕ, zero, suc, ◌+◌, ◌<◌, Bool, true, false, cond, List, [], ◌∷◌, length, get_or, refl, sym, ap, ◌∙◌, inl, inr, arith, eqb}
use Rattle.std.specs.Prelude.{All}
use Rattle.std.proofs.lemmas.List.Elements.{All-from_get_or}
use Rattle.std.proofs.lemmas.Bool.{eqb-true, eq-eqb, false≢true}
use Rattle.sp_ids.specs.declared.outpoint.Outpoint.{Outpoint}
use Rattle.sp_tx.specs.Parts.{Transaction, of_parts}
use Rattle.sp_carry.specs.declared.carrier.Carrier.{Carrier}
use Rattle.sp_carry.specs.Carried.{carriers_from, carriers_in}
use Rattle.sp_carry.specs.Lookups.{is_spent_by, spenders_from, spenders_in}
use Rattle.sp_accept.specs.Rows.{no_row, row_at}
use Rattle.sp_carry.proofs.Members.{IsIn}
use Rattle.sp_accept.proofs.Places.{in_place}

-- the numbers, from `first` on, of the elements that pass
numbers_from : {A : Type 0} → ℕ → (A → Bool) → List A → List ℕ
numbers_from first test [] = []
numbers_from first test (x ∷ xs) = cond (test x) (first ∷ numbers_from (suc first) test xs) (numbers_from (suc first) test xs)

found_number : {A : Type 0} (first : ℕ) (test : A → Bool) (xs : List A) (d : A) (n : ℕ) → IsIn (numbers_from first test xs) n
    → (i : ℕ) × (first + i ≡ n) × (i < length xs) × (test (get_or xs i d) ≡ true)
unfolding numbers_from
found_number first test [] d n h = absurd h
found_number {A} first test (x ∷ xs) d n h = at (test x) refl h (found_number (suc first) test xs d n)
  where
    at : (b : Bool) → test x ≡ b → IsIn (cond b (first ∷ numbers_from (suc first) test xs) (numbers_from (suc first) test xs)) n
        → (IsIn (numbers_from (suc first) test xs) n → (i : ℕ) × (suc first + i ≡ n) × (i < length xs) × (test (get_or xs i d) ≡ true))
        → (i : ℕ) × (first + i ≡ n) × (i < length (x ∷ xs)) × (test (get_or (x ∷ xs) i d) ≡ true)
    at true e h rest =
        elim h [
          | inl same ↦ (0, omega (arith, same), omega arith, e)
          | inr there ↦ (let r : (i : ℕ) × (suc first + i ≡ n) × (i < length xs) × (test (get_or xs i d) ≡ true) = rest there in
              (suc r.0, omega (arith, r.1), omega (arith, r.2), r.3))
        ]
    at false e h rest = (let r : (i : ℕ) × (suc first + i ≡ n) × (i < length xs) × (test (get_or xs i d) ≡ true) = rest h in
        (suc r.0, omega (arith, r.1), omega (arith, r.2), r.3))

number_found : {A : Type 0} (first : ℕ) (test : A → Bool) (xs : List A) (d : A) (i n : ℕ) → first + i ≡ n → i < length xs → test (get_or xs i d) ≡ true
    → IsIn (numbers_from first test xs) n
unfolding numbers_from
number_found first test [] d i n e lt h = absurd (omega (arith, lt))
number_found {A} first test (x ∷ xs) d i n e lt h = at (test x) refl i e lt h (λ j f less passes. number_found (suc first) test xs d j n f less passes)
  where
    at : (b : Bool) → test x ≡ b → (i : ℕ) → first + i ≡ n → i < length (x ∷ xs) → test (get_or (x ∷ xs) i d) ≡ true
        → ((j : ℕ) → suc first + j ≡ n → j < length xs → test (get_or xs j d) ≡ true → IsIn (numbers_from (suc first) test xs) n)
        → IsIn (cond b (first ∷ numbers_from (suc first) test xs) (numbers_from (suc first) test xs)) n
    at true e zero f lt h rest = inl (omega (arith, f))
    at false e zero f lt h rest = absurd (false≢true (sym e ∙ h))
    at true e (suc i) f lt h rest = inr (rest i (omega (arith, f)) (omega (arith, lt)) h)
    at false e (suc i) f lt h rest = rest i (omega (arith, f)) (omega (arith, lt)) h

carriers_are : (first tx : ℕ) (rows : List Carrier) → carriers_from first tx rows ≡ numbers_from first (λ (r : Carrier). eqb r.tx tx) rows
unfolding numbers_from
carriers_are first tx [] = refl
carriers_are first tx (r ∷ rows) =
    ap (λ (xs : List ℕ). cond (eqb r.tx tx) (first ∷ xs) xs) (carriers_are (suc first) tx rows)

spenders_are : (first : ℕ) (from : Outpoint) (txs : List Transaction) → spenders_from first from txs ≡ numbers_from first (λ (t : Transaction). is_spent_by from t.inputs) txs
unfolding numbers_from
spenders_are first from [] = refl
spenders_are first from (t ∷ txs) =
    ap (λ (xs : List ℕ). cond (is_spent_by from t.inputs) (first ∷ xs) xs) (spenders_are (suc first) from txs)

-- a carrier of a transaction
pub carrier_of : (rows : List Carrier) (tx c : ℕ) → IsIn (carriers_in rows tx) c → (c < length rows) × ((row_at rows c).tx ≡ tx)
carrier_of rows tx c h =
    let r : (i : ℕ) × (0 + i ≡ c) × (i < length rows) × (eqb (row_at rows i).tx tx ≡ true) =
    found_number 0 (λ (r : Carrier). eqb r.tx tx) rows no_row c (rw (← (carriers_are 0 tx rows)) h) in
    let e : r.0 ≡ c = omega (arith, r.1) in
    (omega (arith, r.2), ap (λ (i : ℕ). (row_at rows i).tx) (sym e) ∙ eqb-true (row_at rows r.0).tx tx r.3)

pub of_carrier : (rows : List Carrier) (tx c : ℕ) → c < length rows → (row_at rows c).tx ≡ tx → IsIn (carriers_in rows tx) c
of_carrier rows tx c lt e =
    rw (carriers_are 0 tx rows)
    (number_found 0 (λ (r : Carrier). eqb r.tx tx) rows no_row c c (omega arith) lt (eq-eqb (row_at rows c).tx tx e))

-- a spender of an outpoint
pub spender_of : (txs : List Transaction) (d : Transaction) (from : Outpoint) (tx : ℕ) → IsIn (spenders_in txs from) tx
    → (tx < length txs) × (is_spent_by from (get_or txs tx d).inputs ≡ true)
spender_of txs d from tx h =
    let r : (i : ℕ) × (0 + i ≡ tx) × (i < length txs) × (is_spent_by from (get_or txs i d).inputs ≡ true) =
    found_number 0 (λ (t : Transaction). is_spent_by from t.inputs) txs d tx (rw (← (spenders_are 0 from txs)) h) in
    let e : r.0 ≡ tx = omega (arith, r.1) in
    (omega (arith, r.2), ap (λ (i : ℕ). is_spent_by from (get_or txs i d).inputs) (sym e) ∙ r.3)

pub of_spender : (txs : List Transaction) (d : Transaction) (from : Outpoint) (tx : ℕ) → tx < length txs → is_spent_by from (get_or txs tx d).inputs ≡ true
    → IsIn (spenders_in txs from) tx
of_spender txs d from tx lt e =
    rw (spenders_are 0 from txs) (number_found 0 (λ (t : Transaction). is_spent_by from t.inputs) txs d tx tx (omega arith) lt e)

-- they are numbers of carriers, and of transactions
pub carriers_within : (rows : List Carrier) (tx : ℕ) → All (λ c. c < length rows) (carriers_in rows tx)
carriers_within rows tx = All-from_get_or (λ c. c < length rows) (carriers_in rows tx) 0 (λ i lt. (carrier_of rows tx (get_or (carriers_in rows tx) i 0) (in_place (carriers_in rows tx) 0 i lt)).0)

pub spenders_within : (txs : List Transaction) (from : Outpoint) → All (λ tx. tx < length txs) (spenders_in txs from)
spenders_within txs from =
    All-from_get_or (λ tx. tx < length txs) (spenders_in txs from) 0
    (λ i lt. (spender_of txs (of_parts [] []) from (get_or (spenders_in txs from) i 0) (in_place (spenders_in txs from) 0 i lt)).0)
