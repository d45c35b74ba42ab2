-- The numbers that are noted by the spenders of a transaction's inputs are those of its sound rivals.
use Rattle.std.proofs.Common.{◌≡◌, ℕ, zero, suc, Bool, true, false, cond, eqb, not, ◌+◌, ◌<◌, ◌≤◌, List, [], ◌∷◌, length, map, Option, Some, None, refl, sym, ap, ◌∙◌, arith, inl, inr}
use Rattle.std.specs.Prelude.{filter, slice_get, unwrap_or}
use Rattle.std.specs.List.{list_any, range_with_len, AllByRecursion}
use Rattle.std.specs.List.Sorted.{IsStrictlySortedBy}
use Rattle.std.specs.BTreeSet.{IsOrdered}
use Rattle.std.specs.BTreeMap.{is_at}
use Rattle.std.specs.Ordering.{nat_cmp, is_eq}
use Rattle.std.specs.declared.cmp.Ordering.TheVariants.{Equal, Greater, Less}
use Rattle.std.proofs.lemmas.Bool.{cases_lt, false≢true, and_parts, and_from, eqb-true, eq-eqb, ne_eqb, lt-ltb, not_from_false, not-true}
use Rattle.std.proofs.lemmas.Cmp.{nat_cmp_total}
use Rattle.std.proofs.lemmas.Map.Lookups.{btree_set_from_contains, CmpEqualImpliesEq}
use Rattle.std.proofs.lemmas.List.Kept.{IsStrictlySortedBy-filter}
use Rattle.std.proofs.lemmas.Option.{slice_get-get_or}
use Rattle.sp_ids.specs.declared.outpoint.Outpoint.{Outpoint}
use Rattle.sp_tx.specs.declared.parts.Input.{Input}
use Rattle.sp_tx.specs.Parts.{Transaction, of_parts}
use Rattle.sp_tx.specs.Spending.{id_of}
use Rattle.sp_carry.specs.declared.carrier.Carrier.{Carrier}
use Rattle.sp_carry.specs.Payment.{Spent, conflicts, is_same_outpoint, payment_of, spends, spent_by}
use Rattle.sp_carry.specs.Lookups.{is_spent_by, spenders_from, spenders_in}
use Rattle.sp_carry.specs.Carried.{Carried, carriers_from, carriers_in, tx_at, AreLinked}
use Rattle.sp_carry.specs.Rivals.{Set, has_number, is_of_other, is_of_spender, is_rival_at, is_sound_at, rivals_of, sound_or_none}
use Rattle.sp_carry.proofs.Conflicts.{conflicts_from, same_outpoint_turned}
use Rattle.sp_carry.proofs.Finding.{number_is}
use Rattle.sp_carry.proofs.Members.{IsIn, any_of_member, bool_same, in_filter, in_filter_from, in_map, in_map_from, member_meets, member_of_any}
use Rattle.sp_carry.proofs.Noting.{is_eq-nat_cmp}

-- ---- the lists of numbers

pub in_carriers : (first tx : ℕ) (rows : List Carrier) (e : ℕ) → IsIn (carriers_from first tx rows) e
    → (i : ℕ) × (s : Carrier) × (first + i ≡ e) × (slice_get rows i ≡ Some s) × (s.tx ≡ tx)
in_carriers first tx [] e h = absurd h
in_carriers first tx (r ∷ rs) e h = at (eqb r.tx tx) refl h (in_carriers (suc first) tx rs e)
  where
    at : (c : Bool) → eqb r.tx tx ≡ c → IsIn (cond c (first ∷ carriers_from (suc first) tx rs) (carriers_from (suc first) tx rs)) e
        → (IsIn (carriers_from (suc first) tx rs) e → (i : ℕ) × (s : Carrier) × (suc first + i ≡ e) × (slice_get rs i ≡ Some s) × (s.tx ≡ tx))
        → (i : ℕ) × (s : Carrier) × (first + i ≡ e) × (slice_get (r ∷ rs) i ≡ Some s) × (s.tx ≡ tx)
    at true is h rest =
        elim h [
          | inl here ↦ (0, r, (let e0 : first + 0 ≡ first = omega arith in e0) ∙ here, refl, eqb-true r.tx tx is)
          | inr there ↦ (let t : (i : ℕ) × (s : Carrier) × (suc first + i ≡ e) × (slice_get rs i ≡ Some s) × (s.tx ≡ tx) = rest there in
              (suc t.0, t.1, (let step : first + suc t.0 ≡ suc first + t.0 = omega arith in step) ∙ t.2, t.3, t.4))
        ]
    at false is h rest =
        (let t : (i : ℕ) × (s : Carrier) × (suc first + i ≡ e) × (slice_get rs i ≡ Some s) × (s.tx ≡ tx) = rest h in
        (suc t.0, t.1, (let step : first + suc t.0 ≡ suc first + t.0 = omega arith in step) ∙ t.2, t.3, t.4))

pub in_carriers_from : (first tx : ℕ) (rows : List Carrier) (i e : ℕ) (s : Carrier) → slice_get rows i ≡ Some s → s.tx ≡ tx → first + i ≡ e → IsIn (carriers_from first tx rows) e
in_carriers_from first tx [] i e s there is place = absurd (none_some there)
  where
    none_some : None ≡ Some s → ⊥
    none_some e = cc
in_carriers_from first tx (r ∷ rs) zero e s there is place = at (eqb r.tx tx) (eq-eqb r.tx tx (ap (λ (o : Option Carrier). tx_of_some o) there ∙ is))
  where
    tx_of_some : Option Carrier → ℕ
    tx_of_some None = 0
    tx_of_some (Some q) = q.tx

    at : (c : Bool) → c ≡ true → IsIn (cond c (first ∷ carriers_from (suc first) tx rs) (carriers_from (suc first) tx rs)) e
    at true same = inl ((let e0 : first ≡ first + 0 = omega arith in e0) ∙ place)
    at false same = absurd (false≢true same)
in_carriers_from first tx (r ∷ rs) (suc i) e s there is place =
    at (eqb r.tx tx) (in_carriers_from (suc first) tx rs i e s there is ((let step : suc first + i ≡ first + suc i = omega arith in step) ∙ place))
  where
    at : (c : Bool) → IsIn (carriers_from (suc first) tx rs) e → IsIn (cond c (first ∷ carriers_from (suc first) tx rs) (carriers_from (suc first) tx rs)) e
    at true h = inr h
    at false h = h

pub in_spenders : (first : ℕ) (from : Outpoint) (txs : List Transaction) (e : ℕ) → IsIn (spenders_from first from txs) e
    → (i : ℕ) × (t : Transaction) × (first + i ≡ e) × (slice_get txs i ≡ Some t) × (is_spent_by from t.inputs ≡ true)
in_spenders first from [] e h = absurd h
in_spenders first from (x ∷ xs) e h = at (is_spent_by from x.inputs) refl h (in_spenders (suc first) from xs e)
  where
    at : (c : Bool) → is_spent_by from x.inputs ≡ c → IsIn (cond c (first ∷ spenders_from (suc first) from xs) (spenders_from (suc first) from xs)) e
        → (IsIn (spenders_from (suc first) from xs) e → (i : ℕ) × (t : Transaction) × (suc first + i ≡ e) × (slice_get xs i ≡ Some t) × (is_spent_by from t.inputs ≡ true))
        → (i : ℕ) × (t : Transaction) × (first + i ≡ e) × (slice_get (x ∷ xs) i ≡ Some t) × (is_spent_by from t.inputs ≡ true)
    at true is h rest =
        elim h [
          | inl here ↦ (0, x, (let e0 : first + 0 ≡ first = omega arith in e0) ∙ here, refl, is)
          | inr there ↦ (let t : (i : ℕ) × (t : Transaction) × (suc first + i ≡ e) × (slice_get xs i ≡ Some t) × (is_spent_by from t.inputs ≡ true) = rest there in
              (suc t.0, t.1, (let step : first + suc t.0 ≡ suc first + t.0 = omega arith in step) ∙ t.2, t.3, t.4))
        ]
    at false is h rest =
        (let t : (i : ℕ) × (t : Transaction) × (suc first + i ≡ e) × (slice_get xs i ≡ Some t) × (is_spent_by from t.inputs ≡ true) = rest h in
        (suc t.0, t.1, (let step : first + suc t.0 ≡ suc first + t.0 = omega arith in step) ∙ t.2, t.3, t.4))

pub in_spenders_from : (first : ℕ) (from : Outpoint) (txs : List Transaction) (i e : ℕ) (t : Transaction) → slice_get txs i ≡ Some t → is_spent_by from t.inputs ≡ true
    → first + i ≡ e → IsIn (spenders_from first from txs) e
in_spenders_from first from [] i e t there is place = absurd (none_some there)
  where
    none_some : None ≡ Some t → ⊥
    none_some e = cc
in_spenders_from first from (x ∷ xs) zero e t there is place =
    at (is_spent_by from x.inputs) (ap (λ (o : Option Transaction). is_spent_by from (inputs_of o)) there ∙ is)
  where
    inputs_of : Option Transaction → List Input
    inputs_of None = []
    inputs_of (Some q) = q.inputs

    at : (c : Bool) → c ≡ true → IsIn (cond c (first ∷ spenders_from (suc first) from xs) (spenders_from (suc first) from xs)) e
    at true same = inl ((let e0 : first ≡ first + 0 = omega arith in e0) ∙ place)
    at false same = absurd (false≢true same)
in_spenders_from first from (x ∷ xs) (suc i) e t there is place =
    at (is_spent_by from x.inputs) (in_spenders_from (suc first) from xs i e t there is ((let step : suc first + i ≡ first + suc i = omega arith in step) ∙ place))
  where
    at : (c : Bool) → IsIn (spenders_from (suc first) from xs) e → IsIn (cond c (first ∷ spenders_from (suc first) from xs) (spenders_from (suc first) from xs)) e
    at true h = inr h
    at false h = h

-- ---- one number

some_same : {A : Type 0} (x y : A) → Some x ≡ Some y → x ≡ y
some_same x y e = ap (λ (o : Option _). unwrap_or o x) e

-- an outpoint that a transaction spends, as a payment
pub spends_from : (from : Outpoint) (inputs : List Input) → is_spent_by from inputs ≡ true → (j : Spent) × IsIn (map spent_by inputs) j × (is_same_outpoint j.from from ≡ true)
spends_from from inputs h =
    let m : (i : Input) × IsIn inputs i × (is_same_outpoint from i.from ≡ true) = member_of_any (λ (i : Input). is_same_outpoint from i.from) inputs h in
    (spent_by m.0, in_map_from spent_by inputs m.0 m.1, same_outpoint_turned from m.0.from m.2)

pub spends_back : (from : Outpoint) (inputs : List Input) (j : Spent) → IsIn (map spent_by inputs) j → is_same_outpoint j.from from ≡ true → is_spent_by from inputs ≡ true
spends_back from inputs j h same =
    let m : (i : Input) × IsIn inputs i × (spent_by i ≡ j) = in_map spent_by inputs j h in
    any_of_member (λ (i : Input). is_same_outpoint from i.from) inputs m.0 m.1
    (same_outpoint_turned m.0.from from (ap (λ (s : Spent). is_same_outpoint s.from from) m.2 ∙ same))

pub tx_there : (k : Carried) (n : ℕ) (t : Transaction) → slice_get k.txs n ≡ Some t → n < length k.txs → t ≡ tx_at k n
tx_there k n t there lt = sym (some_same (tx_at k n) t (sym (slice_get-get_or k.txs n (of_parts [] []) lt) ∙ there))

pub row_in : (rows : List Carrier) (d : ℕ) (s : Carrier) → slice_get rows d ≡ Some s → IsIn rows s
row_in [] d s there = absurd (none_some there)
  where
    none_some : None ≡ Some s → ⊥
    none_some e = cc
row_in (r ∷ rs) zero s there = inl (some_same r s there)
row_in (r ∷ rs) (suc d) s there = inr (row_in rs d s there)

-- a number that is noted is that of a sound rival, and each of these is noted
pub noted_is_rival : (k : Carried) (c d : ℕ) (r : Carrier) → AreLinked k → slice_get k.rows c ≡ Some r
    → list_any (λ (i : Input). is_of_spender k.txs k.rows r.tx i d) (tx_at k r.tx).inputs ≡ is_rival_at k (slice_get k.rows c) (slice_get k.rows d)
noted_is_rival k c d r linked there =
    bool_same (list_any (λ (i : Input). is_of_spender k.txs k.rows r.tx i d) (tx_at k r.tx).inputs) (is_rival_at k (slice_get k.rows c) (slice_get k.rows d)) into back
  where
    r_below : r.tx < length k.txs
    r_below = member_meets (λ (q : Carrier). q.tx < length k.txs) k.rows r linked.txs (row_in k.rows c r there)

    ids_differ : (m n : ℕ) → m < length k.txs → n < length k.txs → (m ≡ n → ⊥) → eqb (id_of (tx_at k m)) (id_of (tx_at k n)) ≡ false
    ids_differ m n lm ln other =
        ne_eqb (id_of (tx_at k m)) (id_of (tx_at k n))
        (λ e. other (some_same m n (sym (number_is k m (id_of (tx_at k n)) linked.ids lm e) ∙ number_is k n (id_of (tx_at k n)) linked.ids ln refl)))

    -- a sound carrier of another transaction that spends what the input spends
    rival_at : (i : Input) (s : Carrier) → IsIn (tx_at k r.tx).inputs i → slice_get k.rows d ≡ Some s → s.sound ≡ true → (s.tx ≡ r.tx → ⊥)
        → is_spent_by i.from (tx_at k s.tx).inputs ≡ true → is_rival_at k (slice_get k.rows c) (slice_get k.rows d) ≡ true
    rival_at i s in_i at_d sound other spent =
        let s_below : s.tx < length k.txs = member_meets (λ (q : Carrier). q.tx < length k.txs) k.rows s linked.txs (row_in k.rows d s at_d) in
        let j : (j : Spent) × IsIn (map spent_by (tx_at k s.tx).inputs) j × (is_same_outpoint j.from i.from ≡ true) = spends_from i.from (tx_at k s.tx).inputs spent in
        let apart : eqb (id_of (tx_at k r.tx)) (id_of (tx_at k s.tx)) ≡ false = ids_differ r.tx s.tx r_below s_below (λ q. other (sym q)) in
        ap (λ (x : Option Carrier). is_rival_at k x (slice_get k.rows d)) there ∙ ap (is_rival_at k (Some r)) at_d
        ∙ and_from s.sound (conflicts (payment_of (tx_at k r.tx)) (payment_of (tx_at k s.tx))) sound
        (conflicts_from (payment_of (tx_at k r.tx)) (payment_of (tx_at k s.tx)) (spent_by i) j.0 apart (in_map_from spent_by (tx_at k r.tx).inputs i in_i) j.1 j.2)

    -- a carrier among those of a spender
    found_at : (i : Input) (o e n m : ℕ) (s : Carrier) (t : Transaction) → IsIn (tx_at k r.tx).inputs i → not (eqb o r.tx) ≡ true → eqb e d ≡ true
        → sound_or_none (slice_get k.rows e) ≡ true → 0 + n ≡ e → slice_get k.rows n ≡ Some s → s.tx ≡ o → 0 + m ≡ o → slice_get k.txs m ≡ Some t
        → is_spent_by i.from t.inputs ≡ true → is_rival_at k (slice_get k.rows c) (slice_get k.rows d) ≡ true
    found_at i o e n m s t in_i other same sound place row is number tx spent =
        let at_d : slice_get k.rows d ≡ Some s = ap (slice_get k.rows) (let p : d ≡ n = omega (arith, place, eqb-true e d same) in p) ∙ row in
        let s_below : s.tx < length k.txs = member_meets (λ (q : Carrier). q.tx < length k.txs) k.rows s linked.txs (row_in k.rows d s at_d) in
        let spender : slice_get k.txs s.tx ≡ Some t = ap (slice_get k.txs) (let p : s.tx ≡ m = omega (arith, is, number) in p) ∙ tx in
        rival_at i s in_i at_d
        (ap sound_or_none (sym at_d) ∙ ap (λ (x : ℕ). sound_or_none (slice_get k.rows x)) (sym (eqb-true e d same)) ∙ sound)
        (λ q. false≢true (sym (not-true (eqb o r.tx) other) ∙ eq-eqb o r.tx (sym is ∙ q)))
        (ap (λ (x : Transaction). is_spent_by i.from x.inputs) (sym (tx_there k s.tx t spender s_below)) ∙ spent)

    into : list_any (λ (i : Input). is_of_spender k.txs k.rows r.tx i d) (tx_at k r.tx).inputs ≡ true → is_rival_at k (slice_get k.rows c) (slice_get k.rows d) ≡ true
    into h =
        let i : (i : Input) × IsIn (tx_at k r.tx).inputs i × (is_of_spender k.txs k.rows r.tx i d ≡ true) =
        member_of_any (λ (i : Input). is_of_spender k.txs k.rows r.tx i d) (tx_at k r.tx).inputs h in
        let o : (o : ℕ) × IsIn (spenders_in k.txs i.0.from) o × (is_of_other k.rows r.tx o d ≡ true) =
        member_of_any (λ other. is_of_other k.rows r.tx other d) (spenders_in k.txs i.0.from) i.2 in
        let parts : (not (eqb o.0 r.tx) ≡ true) × (list_any (λ e. is_sound_at k.rows e d) (carriers_in k.rows o.0) ≡ true) =
        and_parts (not (eqb o.0 r.tx)) (list_any (λ e. is_sound_at k.rows e d) (carriers_in k.rows o.0)) o.2 in
        let e : (e : ℕ) × IsIn (carriers_in k.rows o.0) e × (is_sound_at k.rows e d ≡ true) = member_of_any (λ e. is_sound_at k.rows e d) (carriers_in k.rows o.0) parts.1 in
        let both : (eqb e.0 d ≡ true) × (sound_or_none (slice_get k.rows e.0) ≡ true) = and_parts (eqb e.0 d) (sound_or_none (slice_get k.rows e.0)) e.2 in
        let row : (n : ℕ) × (s : Carrier) × (0 + n ≡ e.0) × (slice_get k.rows n ≡ Some s) × (s.tx ≡ o.0) = in_carriers 0 o.0 k.rows e.0 e.1 in
        let sp : (n : ℕ) × (t : Transaction) × (0 + n ≡ o.0) × (slice_get k.txs n ≡ Some t) × (is_spent_by i.0.from t.inputs ≡ true) = in_spenders 0 i.0.from k.txs o.0 o.1 in
        found_at i.0 o.0 e.0 row.0 sp.0 row.1 sp.1 i.1 parts.0 both.0 both.1 row.2 row.3 row.4 sp.2 sp.3 sp.4

    back : is_rival_at k (slice_get k.rows c) (slice_get k.rows d) ≡ true → list_any (λ (i : Input). is_of_spender k.txs k.rows r.tx i d) (tx_at k r.tx).inputs ≡ true
    back h = at (slice_get k.rows d) refl (ap (λ (x : Option Carrier). is_rival_at k x (slice_get k.rows d)) (sym there) ∙ h)
      where
        at : (x : Option Carrier) → slice_get k.rows d ≡ x → is_rival_at k (Some r) x ≡ true → list_any (λ (i : Input). is_of_spender k.txs k.rows r.tx i d) (tx_at k r.tx).inputs ≡ true
        at None e h = absurd (false≢true h)
        at (Some s) e h =
            let both : (s.sound ≡ true) × (conflicts (payment_of (tx_at k r.tx)) (payment_of (tx_at k s.tx)) ≡ true) =
            and_parts s.sound (conflicts (payment_of (tx_at k r.tx)) (payment_of (tx_at k s.tx))) h in
            let clash : (not (eqb (id_of (tx_at k r.tx)) (id_of (tx_at k s.tx))) ≡ true) × (list_any (λ (i : Spent). spends (payment_of (tx_at k s.tx)) i.from) (map spent_by (tx_at k r.tx).inputs) ≡ true) =
            and_parts (not (eqb (id_of (tx_at k r.tx)) (id_of (tx_at k s.tx)))) (list_any (λ (i : Spent). spends (payment_of (tx_at k s.tx)) i.from) (map spent_by (tx_at k r.tx).inputs)) both.1 in
            let common : (i : Spent) × IsIn (map spent_by (tx_at k r.tx).inputs) i × (spends (payment_of (tx_at k s.tx)) i.from ≡ true) =
            member_of_any (λ (i : Spent). spends (payment_of (tx_at k s.tx)) i.from) (map spent_by (tx_at k r.tx).inputs) clash.1 in
            let input : (i : Input) × IsIn (tx_at k r.tx).inputs i × (spent_by i ≡ common.0) = in_map spent_by (tx_at k r.tx).inputs common.0 common.1 in
            let j : (j : Spent) × IsIn (map spent_by (tx_at k s.tx).inputs) j × (is_same_outpoint j.from common.0.from ≡ true) =
            member_of_any (λ (j : Spent). is_same_outpoint j.from common.0.from) (map spent_by (tx_at k s.tx).inputs) common.2 in
            let s_below : s.tx < length k.txs = member_meets (λ (q : Carrier). q.tx < length k.txs) k.rows s linked.txs (row_in k.rows d s e) in
            let spent : is_spent_by input.0.from (tx_at k s.tx).inputs ≡ true =
            spends_back input.0.from (tx_at k s.tx).inputs j.0 j.1 (ap (λ (q : Spent). is_same_outpoint j.0.from q.from) input.2 ∙ j.2) in
            let other : eqb s.tx r.tx ≡ false =
            ne_eqb s.tx r.tx (λ q. false≢true (sym (not-true (eqb (id_of (tx_at k r.tx)) (id_of (tx_at k s.tx))) clash.0)
            ∙ eq-eqb (id_of (tx_at k r.tx)) (id_of (tx_at k s.tx)) (ap (λ (n : ℕ). id_of (tx_at k n)) (sym q)))) in
            any_of_member (λ (i : Input). is_of_spender k.txs k.rows r.tx i d) (tx_at k r.tx).inputs input.0 input.1
            (any_of_member (λ o. is_of_other k.rows r.tx o d) (spenders_in k.txs input.0.from) s.tx
            (in_spenders_from 0 input.0.from k.txs s.tx s.tx (tx_at k s.tx) (slice_get-get_or k.txs s.tx (of_parts [] []) s_below) spent (let z : 0 + s.tx ≡ s.tx = omega arith in z))
            (and_from (not (eqb s.tx r.tx)) (list_any (λ e. is_sound_at k.rows e d) (carriers_in k.rows s.tx)) (not_from_false (eqb s.tx r.tx) other)
            (any_of_member (λ e. is_sound_at k.rows e d) (carriers_in k.rows s.tx) d
            (in_carriers_from 0 s.tx k.rows d d s e refl (let z : 0 + d ≡ d = omega arith in z))
            (and_from (eqb d d) (sound_or_none (slice_get k.rows d)) (eq-eqb d d refl) (ap sound_or_none e ∙ both.0)))))

-- ---- the whole set

after_range : (a b n : ℕ) → a < b → AllByRecursion (λ y. nat_cmp a y ≡ Less) (range_with_len b n)
after_range a b zero lt = tt
after_range a b (suc n) lt = (ap (λ (c : Bool). cond c Less (cond (eqb a b) Equal Greater)) (lt-ltb a b lt), after_range a (b + 1) n (omega (arith, lt)))

pub range_sorted : (a n : ℕ) → IsStrictlySortedBy nat_cmp (range_with_len a n)
unfolding IsStrictlySortedBy
range_sorted a zero = tt
range_sorted a (suc n) = (after_range a (a + 1) n (omega arith), range_sorted (a + 1) n)

pub in_range_from : (a n d : ℕ) → a ≤ d → d < a + n → IsIn (range_with_len a n) d
in_range_from a zero d le lt = absurd (omega (arith, le, lt))
in_range_from a (suc n) d le lt =
    elim (cases_lt a d) [
      | inl less ↦ inr (in_range_from (a + 1) n d (omega (arith, less)) (omega (arith, lt)))
      | inr ge ↦ inl (let e : a ≡ d = omega (arith, le, ge) in e)
    ]

pub equal_is_same : CmpEqualImpliesEq nat_cmp
equal_is_same x y e = eqb-true x y (sym (is_eq-nat_cmp x y) ∙ ap is_eq e)

pub rivals_are : (k : Carried) (c : ℕ) (r : Carrier) (set : Set) → AreLinked k → slice_get k.rows c ≡ Some r → IsOrdered nat_cmp set
    → ((d : ℕ) → has_number set d ≡ list_any (λ (i : Input). is_of_spender k.txs k.rows r.tx i d) (tx_at k r.tx).inputs) → set.keys ≡ rivals_of k c
rivals_are k c r set linked there ordered noted =
    btree_set_from_contains nat_cmp_total set (record { keys = rivals_of k c }) ordered
    (IsStrictlySortedBy-filter nat_cmp (λ d. is_rival_at k (slice_get k.rows c) (slice_get k.rows d)) (range_with_len 0 (length k.rows)) (range_sorted 0 (length k.rows)))
    (λ d. noted d ∙ noted_is_rival k c d r linked there ∙ sym (listed d)) equal_is_same
  where
    test : ℕ → Bool
    test d = is_rival_at k (slice_get k.rows c) (slice_get k.rows d)

    beyond : (rows : List Carrier) (d : ℕ) (s : Carrier) → slice_get rows d ≡ Some s → d < length rows
    beyond [] d s e = absurd (none_some e)
      where
        none_some : None ≡ Some s → ⊥
        none_some e = cc
    beyond (q ∷ qs) zero s e = omega arith
    beyond (q ∷ qs) (suc d) s e = (let lt : d < length qs = beyond qs d s e in omega (arith, lt))

    below : (d : ℕ) → test d ≡ true → d < length k.rows
    below d h = at (slice_get k.rows d) refl (ap (λ (x : Option Carrier). is_rival_at k x (slice_get k.rows d)) (sym there) ∙ h)
      where
        at : (x : Option Carrier) → slice_get k.rows d ≡ x → is_rival_at k (Some r) x ≡ true → d < length k.rows
        at None e h = absurd (false≢true h)
        at (Some s) e h = beyond k.rows d s e

    listed : (d : ℕ) → list_any (is_at (nat_cmp d)) (filter test (range_with_len 0 (length k.rows))) ≡ test d
    listed d = bool_same (list_any (is_at (nat_cmp d)) (filter test (range_with_len 0 (length k.rows)))) (test d) into back
      where
        into : list_any (is_at (nat_cmp d)) (filter test (range_with_len 0 (length k.rows))) ≡ true → test d ≡ true
        into h =
            let m : (e : ℕ) × IsIn (filter test (range_with_len 0 (length k.rows))) e × (is_eq (nat_cmp d e) ≡ true) =
            member_of_any (is_at (nat_cmp d)) (filter test (range_with_len 0 (length k.rows))) h in
            ap test (eqb-true d m.0 (sym (is_eq-nat_cmp d m.0) ∙ m.2)) ∙ (in_filter test (range_with_len 0 (length k.rows)) m.0 m.1).1

        back : test d ≡ true → list_any (is_at (nat_cmp d)) (filter test (range_with_len 0 (length k.rows))) ≡ true
        back h =
            any_of_member (is_at (nat_cmp d)) (filter test (range_with_len 0 (length k.rows))) d
            (in_filter_from test (range_with_len 0 (length k.rows)) d (in_range_from 0 (length k.rows) d (omega arith) (let lt : d < length k.rows = below d h in omega (arith, lt))) h)
            (is_eq-nat_cmp d d ∙ eq-eqb d d refl)
