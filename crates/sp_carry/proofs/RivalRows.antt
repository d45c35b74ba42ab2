-- Which blocks' marks in the row of a transaction are those of its rivals, with all carriers, with more of them, and where
-- the last blocks go.
use Rattle.std.proofs.Common.{◌≡◌, ℕ, suc, Bool, true, false, eqb, not, ◌+◌, ◌<◌, ◌≤◌, ◌||◌, ◌&&◌, List, [], ◌∷◌, length, map, take, drop, nat_lt, Option, Some, refl, sym, ap, ◌∙◌, arith, subst, inl, inr}
use Rattle.std.specs.Prelude.{slice_get, unwrap_or}
use Rattle.std.specs.List.{list_any}
use Rattle.std.proofs.lemmas.Bool.{cases_lt, false≢true, and_parts, and_from, eqb-true, eq-eqb, ne_eqb, not_from_false, not-true}
use Rattle.std.proofs.lemmas.List.{get_or-take, length-take-le, take-append-drop}
use Rattle.std.proofs.lemmas.List.Folds.{list_any-append}
use Rattle.std.proofs.lemmas.Option.{slice_get-get_or}
use Rattle.sp_bits.specs.Places.{has, IsRow}
use Rattle.sp_bits.specs.Members.{has-filter, has-places_where}
use Rattle.sp_bits.proofs.Sets.{places_same}
use Rattle.sp_tx.specs.declared.parts.Input.{Input}
use Rattle.sp_tx.specs.Parts.{Transaction, of_parts}
use Rattle.sp_tx.specs.Spending.{id_of}
use Rattle.sp_ids.specs.declared.outpoint.Outpoint.{Outpoint}
use Rattle.sp_carry.specs.declared.carrier.Carrier.{Carrier}
use Rattle.sp_carry.specs.Payment.{Spent, conflicts, is_same_outpoint, payment_of, spends, spent_by}
use Rattle.sp_carry.specs.Lookups.{is_spent_by, spenders_in}
use Rattle.sp_carry.specs.Carried.{Carried, carriers_in, cut_to, rows_of_first, tx_at, used, AreLinked}
use Rattle.sp_carry.specs.Growth.{front}
use Rattle.sp_carry.specs.RivalBlocks.{has_other_in, has_rival_in, has_spender_in, is_in_row_of, is_in_row_of_spender, is_rival_in, is_sound_in, is_sound_one, rival_blocks, row_of, AreCut, AreMarkedBy, ArePushed, HasRivals}
use Rattle.sp_carry.proofs.Conflicts.{conflicts_from, conflicts_turned}
use Rattle.sp_carry.proofs.Finding.{number_is}
use Rattle.sp_carry.proofs.Fronts.{all_used, used-front}
use Rattle.sp_carry.proofs.Members.{IsIn, any_agrees, any_of_member, bool_same, in_filter, in_filter_from, in_map, in_map_from, member_meets, member_of_any}
use Rattle.sp_carry.proofs.Rivalry.{in_carriers, in_carriers_from, in_spenders, in_spenders_from, row_in, spends_back, spends_from, tx_there}

-- a member of a list stands at a number
pub number_in : {A : Type 0} (xs : List A) (x : A) → IsIn xs x → (i : ℕ) × (slice_get xs i ≡ Some x)
number_in [] x h = absurd h
number_in {A} (y ∷ ys) x h =
    elim h [
      | inl same ↦ (0, ap (λ (v : A). Some v) same)
      | inr there ↦ (let r : (i : ℕ) × (slice_get ys i ≡ Some x) = number_in ys x there in (suc r.0, r.1))
    ]

-- ---- two transactions that conflict

module _ (k : Carried) (linked : AreLinked k) where
  ids_differ : (m n : ℕ) → m < length k.txs → n < length k.txs → (m ≡ n → ⊥) → eqb (id_of (tx_at k m)) (id_of (tx_at k n)) ≡ false
  ids_differ m n lm ln other =
      ne_eqb (id_of (tx_at k m)) (id_of (tx_at k n))
      (λ e. other (some_same m n (sym (number_is k m (id_of (tx_at k n)) linked.ids lm e) ∙ number_is k n (id_of (tx_at k n)) linked.ids ln refl)))
    where
      some_same : (x y : ℕ) → Some x ≡ Some y → x ≡ y
      some_same x y e = ap (λ (o : Option ℕ). unwrap_or o x) e

  -- by an input whose outpoint the other one spends
  clash_from : (t u : ℕ) (i : Input) → t < length k.txs → u < length k.txs → eqb u t ≡ false → IsIn (tx_at k t).inputs i → is_spent_by i.from (tx_at k u).inputs ≡ true
      → conflicts (payment_of (tx_at k t)) (payment_of (tx_at k u)) ≡ true
  clash_from t u i lt lu other in_i spent =
      let j : (j : Spent) × IsIn (map spent_by (tx_at k u).inputs) j × (is_same_outpoint j.from i.from ≡ true) = spends_from i.from (tx_at k u).inputs spent in
      conflicts_from (payment_of (tx_at k t)) (payment_of (tx_at k u)) (spent_by i) j.0
      (ids_differ t u lt lu (λ e. false≢true (sym other ∙ eq-eqb u t (sym e)))) (in_map_from spent_by (tx_at k t).inputs i in_i) j.1 j.2

  clash_to : (t u : ℕ) → conflicts (payment_of (tx_at k t)) (payment_of (tx_at k u)) ≡ true
      → (i : Input) × IsIn (tx_at k t).inputs i × (is_spent_by i.from (tx_at k u).inputs ≡ true) × (eqb u t ≡ false)
  clash_to t u h =
      let clash : (not (eqb (id_of (tx_at k t)) (id_of (tx_at k u))) ≡ true) × (list_any (λ (i : Spent). spends (payment_of (tx_at k u)) i.from) (map spent_by (tx_at k t).inputs) ≡ true) =
      and_parts (not (eqb (id_of (tx_at k t)) (id_of (tx_at k u)))) (list_any (λ (i : Spent). spends (payment_of (tx_at k u)) i.from) (map spent_by (tx_at k t).inputs)) h in
      let common : (i : Spent) × IsIn (map spent_by (tx_at k t).inputs) i × (spends (payment_of (tx_at k u)) i.from ≡ true) =
      member_of_any (λ (i : Spent). spends (payment_of (tx_at k u)) i.from) (map spent_by (tx_at k t).inputs) clash.1 in
      let input : (i : Input) × IsIn (tx_at k t).inputs i × (spent_by i ≡ common.0) = in_map spent_by (tx_at k t).inputs common.0 common.1 in
      let j : (j : Spent) × IsIn (map spent_by (tx_at k u).inputs) j × (is_same_outpoint j.from common.0.from ≡ true) =
      member_of_any (λ (j : Spent). is_same_outpoint j.from common.0.from) (map spent_by (tx_at k u).inputs) common.2 in (
        input.0,
        input.1,
        spends_back input.0.from (tx_at k u).inputs j.0 j.1 (ap (λ (q : Spent). is_same_outpoint j.0.from q.from) input.2 ∙ j.2),
        ne_eqb u t (λ q. false≢true (sym (not-true (eqb (id_of (tx_at k t)) (id_of (tx_at k u))) clash.0)
            ∙ eq-eqb (id_of (tx_at k t)) (id_of (tx_at k u)) (ap (λ (n : ℕ). id_of (tx_at k n)) (sym q)))),
      )

  known : (r : Carrier) → IsIn k.rows r → r.tx < length k.txs
  known r h = member_meets (λ (q : Carrier). q.tx < length k.txs) k.rows r linked.txs h

  -- a spender of an outpoint
  spender_is : (from : Outpoint) (u : ℕ) → IsIn (spenders_in k.txs from) u → u < length k.txs → is_spent_by from (tx_at k u).inputs ≡ true
  spender_is from u h lt =
      let sp : (n : ℕ) × (t : Transaction) × (0 + n ≡ u) × (slice_get k.txs n ≡ Some t) × (is_spent_by from t.inputs ≡ true) = in_spenders 0 from k.txs u h in
      let at : slice_get k.txs u ≡ Some sp.1 = ap (slice_get k.txs) (let p : u ≡ sp.0 = omega (arith, sp.2) in p) ∙ sp.3 in
      ap (λ (x : Transaction). is_spent_by from x.inputs) (sym (tx_there k u sp.1 at lt)) ∙ sp.4

  is_spender : (from : Outpoint) (u : ℕ) → u < length k.txs → is_spent_by from (tx_at k u).inputs ≡ true → IsIn (spenders_in k.txs from) u
  is_spender from u lt spent =
      in_spenders_from 0 from k.txs u u (tx_at k u) (slice_get-get_or k.txs u (of_parts [] []) lt) spent (let z : 0 + u ≡ u = omega arith in z)

  -- ---- the marks of a transaction's own row

  pub own_marks : (t z : ℕ) → t < length k.txs → list_any (λ (i : Input). has_spender_in k.txs k.rows t i z) (tx_at k t).inputs ≡ has_rival_in k t z
  own_marks t z lt = bool_same _ (has_rival_in k t z) into back
    where
      found : (i : Input) (o e n : ℕ) (s : Carrier) → IsIn (tx_at k t).inputs i → IsIn (spenders_in k.txs i.from) o → not (eqb o t) ≡ true → is_sound_in k.rows e z ≡ true
          → 0 + n ≡ e → slice_get k.rows n ≡ Some s → s.tx ≡ o → has_rival_in k t z ≡ true
      found i o e n s in_i spender other sound number row is =
          let in_s : IsIn k.rows s = row_in k.rows n s row in
          let here : (s.sound && eqb z s.block) ≡ true = ap (λ (x : Option Carrier). is_sound_one x z) (sym row) ∙ ap (λ (m : ℕ). is_sound_in k.rows m z) (let p : n ≡ e = omega (arith, number) in p) ∙ sound in
          let parts : (s.sound ≡ true) × (eqb z s.block ≡ true) = and_parts s.sound (eqb z s.block) here in
          let at_o : IsIn (spenders_in k.txs i.from) s.tx = subst (IsIn (spenders_in k.txs i.from)) (sym is) spender in
          any_of_member (is_rival_in k t z) k.rows s in_s
          (and_from s.sound _ parts.0
          (and_from (eqb z s.block) _ parts.1
          (clash_from t s.tx i lt (known s in_s) (ap (λ (n : ℕ). eqb n t) is ∙ not-true (eqb o t) other) in_i (spender_is i.from s.tx at_o (known s in_s)))))

      into : list_any (λ (i : Input). has_spender_in k.txs k.rows t i z) (tx_at k t).inputs ≡ true → has_rival_in k t z ≡ true
      into h =
          let i : (i : Input) × IsIn (tx_at k t).inputs i × (has_spender_in k.txs k.rows t i z ≡ true) =
          member_of_any (λ (i : Input). has_spender_in k.txs k.rows t i z) (tx_at k t).inputs h in
          let o : (o : ℕ) × IsIn (spenders_in k.txs i.0.from) o × (has_other_in k.rows t o z ≡ true) =
          member_of_any (λ other. has_other_in k.rows t other z) (spenders_in k.txs i.0.from) i.2 in
          let parts : (not (eqb o.0 t) ≡ true) × (list_any (λ e. is_sound_in k.rows e z) (carriers_in k.rows o.0) ≡ true) =
          and_parts (not (eqb o.0 t)) (list_any (λ e. is_sound_in k.rows e z) (carriers_in k.rows o.0)) o.2 in
          let e : (e : ℕ) × IsIn (carriers_in k.rows o.0) e × (is_sound_in k.rows e z ≡ true) = member_of_any (λ e. is_sound_in k.rows e z) (carriers_in k.rows o.0) parts.1 in
          let row : (n : ℕ) × (s : Carrier) × (0 + n ≡ e.0) × (slice_get k.rows n ≡ Some s) × (s.tx ≡ o.0) = in_carriers 0 o.0 k.rows e.0 e.1 in
          found i.0 o.0 e.0 row.0 row.1 i.1 o.1 parts.0 e.2 row.2 row.3 row.4

      back : has_rival_in k t z ≡ true → list_any (λ (i : Input). has_spender_in k.txs k.rows t i z) (tx_at k t).inputs ≡ true
      back h =
          let s : (s : Carrier) × IsIn k.rows s × (is_rival_in k t z s ≡ true) = member_of_any (is_rival_in k t z) k.rows h in
          let p : (s.0.sound ≡ true) × ((eqb z s.0.block && conflicts (payment_of (tx_at k t)) (payment_of (tx_at k s.0.tx))) ≡ true) = and_parts s.0.sound _ s.2 in
          let q : (eqb z s.0.block ≡ true) × (conflicts (payment_of (tx_at k t)) (payment_of (tx_at k s.0.tx)) ≡ true) = and_parts (eqb z s.0.block) _ p.1 in
          let i : (i : Input) × IsIn (tx_at k t).inputs i × (is_spent_by i.from (tx_at k s.0.tx).inputs ≡ true) × (eqb s.0.tx t ≡ false) = clash_to t s.0.tx q.1 in
          let n : (n : ℕ) × (slice_get k.rows n ≡ Some s.0) = number_in k.rows s.0 s.1 in
          any_of_member (λ (i : Input). has_spender_in k.txs k.rows t i z) (tx_at k t).inputs i.0 i.1
          (any_of_member (λ other. has_other_in k.rows t other z) (spenders_in k.txs i.0.from) s.0.tx (is_spender i.0.from s.0.tx (known s.0 s.1) i.2)
          (and_from (not (eqb s.0.tx t)) _ (not_from_false (eqb s.0.tx t) i.3)
          (any_of_member (λ e. is_sound_in k.rows e z) (carriers_in k.rows s.0.tx) n.0
          (in_carriers_from 0 s.0.tx k.rows n.0 n.0 s.0 n.1 refl (let z : 0 + n.0 ≡ n.0 = omega arith in z))
          (ap (λ (x : Option Carrier). is_sound_one x z) n.1 ∙ and_from s.0.sound (eqb z s.0.block) p.0 q.0))))

  -- the row that these marks give
  pub own_row : (t : ℕ) (row : List ℕ) → t < length k.txs → IsRow row → ((z : ℕ) → has row z ≡ list_any (λ (i : Input). has_spender_in k.txs k.rows t i z) (tx_at k t).inputs)
      → row ≡ rival_blocks k t
  unfolding IsRow
  own_row t row lt is h = is ∙ places_same (has row) (has_rival_in k t) (λ z small. h z ∙ own_marks t z lt)

  -- ---- a carrier's marks in the rows of its rivals

  pub others_marks : (r : Carrier) (t z : ℕ) → r.tx < length k.txs → t < length k.txs → r.sound ≡ true
      → list_any (λ (i : Input). is_in_row_of_spender k.txs r.tx r.block i t z) (tx_at k r.tx).inputs ≡ is_rival_in k t z r
  others_marks r t z lr lt sound = bool_same _ (is_rival_in k t z r) into back
    where
      into : list_any (λ (i : Input). is_in_row_of_spender k.txs r.tx r.block i t z) (tx_at k r.tx).inputs ≡ true → is_rival_in k t z r ≡ true
      into h =
          let i : (i : Input) × IsIn (tx_at k r.tx).inputs i × (is_in_row_of_spender k.txs r.tx r.block i t z ≡ true) =
          member_of_any (λ (i : Input). is_in_row_of_spender k.txs r.tx r.block i t z) (tx_at k r.tx).inputs h in
          let o : (o : ℕ) × IsIn (spenders_in k.txs i.0.from) o × (is_in_row_of r.tx r.block o t z ≡ true) =
          member_of_any (λ other. is_in_row_of r.tx r.block other t z) (spenders_in k.txs i.0.from) i.2 in
          let p : (not (eqb o.0 r.tx) ≡ true) × ((eqb t o.0 && eqb z r.block) ≡ true) = and_parts (not (eqb o.0 r.tx)) _ o.2 in
          let q : (eqb t o.0 ≡ true) × (eqb z r.block ≡ true) = and_parts (eqb t o.0) (eqb z r.block) p.1 in
          let same : o.0 ≡ t = sym (eqb-true t o.0 q.0) in
          let at_t : IsIn (spenders_in k.txs i.0.from) t = subst (IsIn (spenders_in k.txs i.0.from)) same o.1 in
          and_from r.sound _ sound
          (and_from (eqb z r.block) _ q.1
          (conflicts_turned (payment_of (tx_at k r.tx)) (payment_of (tx_at k t))
          (clash_from r.tx t i.0 lr lt (ap (λ (n : ℕ). eqb n r.tx) (sym same) ∙ not-true (eqb o.0 r.tx) p.0) i.1 (spender_is i.0.from t at_t lt))))

      back : is_rival_in k t z r ≡ true → list_any (λ (i : Input). is_in_row_of_spender k.txs r.tx r.block i t z) (tx_at k r.tx).inputs ≡ true
      back h =
          let p : (r.sound ≡ true) × ((eqb z r.block && conflicts (payment_of (tx_at k t)) (payment_of (tx_at k r.tx))) ≡ true) = and_parts r.sound _ h in
          let q : (eqb z r.block ≡ true) × (conflicts (payment_of (tx_at k t)) (payment_of (tx_at k r.tx)) ≡ true) = and_parts (eqb z r.block) _ p.1 in
          let i : (i : Input) × IsIn (tx_at k r.tx).inputs i × (is_spent_by i.from (tx_at k t).inputs ≡ true) × (eqb t r.tx ≡ false) =
          clash_to r.tx t (conflicts_turned (payment_of (tx_at k t)) (payment_of (tx_at k r.tx)) q.1) in
          any_of_member (λ (i : Input). is_in_row_of_spender k.txs r.tx r.block i t z) (tx_at k r.tx).inputs i.0 i.1
          (any_of_member (λ other. is_in_row_of r.tx r.block other t z) (spenders_in k.txs i.0.from) t (is_spender i.0.from t lt i.2)
          (and_from (not (eqb t r.tx)) _ (not_from_false (eqb t r.tx) i.3) (and_from (eqb t t) (eqb z r.block) (eq-eqb t t refl) q.0)))

  pub not_sound : (r : Carrier) (t z : ℕ) → r.sound ≡ false → is_rival_in k t z r ≡ false
  not_sound r t z e = ap (λ (b : Bool). b && (eqb z r.block && conflicts (payment_of (tx_at k t)) (payment_of (tx_at k r.tx)))) e

  -- ---- more carriers

  tx_front : (first u : ℕ) → u < used (take first k.rows) → tx_at (front k first) u ≡ tx_at k u
  tx_front first u lt = get_or-take (used (take first k.rows)) k.txs u (of_parts [] []) lt

  long_front : (first : ℕ) → length (front k first).txs ≡ used (take first k.rows)
  long_front first = length-take-le (used (take first k.rows)) k.txs (used-front k first linked)

  -- what the first carriers give is what they give among all
  front_marks : (first t z : ℕ) → t < length (front k first).txs → has_rival_in (front k first) t z ≡ list_any (is_rival_in k t z) (take first k.rows)
  front_marks first t z lt =
      any_agrees (is_rival_in (front k first) t z) (is_rival_in k t z) (take first k.rows)
      (λ r in_r.
      let below : r.tx < used (take first k.rows) = member_meets (λ (q : Carrier). q.tx < used (take first k.rows)) (take first k.rows) r (all_used 0 (take first k.rows)) in_r in
      ap (λ (x : Transaction). r.sound && (eqb z r.block && conflicts (payment_of x) (payment_of (tx_at (front k first) r.tx)))) (tx_front first t (omega (arith, lt, long_front first)))
      ∙ ap (λ (x : Transaction). r.sound && (eqb z r.block && conflicts (payment_of (tx_at k t)) (payment_of x))) (tx_front first r.tx below))

  all_parts : (first t z : ℕ) → has_rival_in k t z ≡ (list_any (is_rival_in k t z) (take first k.rows) || list_any (is_rival_in k t z) (drop first k.rows))
  all_parts first t z =
      ap (list_any (is_rival_in k t z)) (sym (take-append-drop first k.rows)) ∙ list_any-append (is_rival_in k t z) (take first k.rows) (drop first k.rows)

  or_again : (a b : Bool) → ((a || b) || b) ≡ (a || b)
  or_again true b = refl
  or_again false true = refl
  or_again false false = refl

  pub rows_added : (first : ℕ) (old mid new : List (List ℕ)) (news : List Carrier) → news ≡ drop first k.rows → HasRivals (front k first) old → ArePushed k old mid (length k.txs)
      → AreMarkedBy (λ t z. list_any (is_rival_in k t z) news) mid new → HasRivals k new
  rows_added first old mid new news is before pushed marked = record {
    long = marked.long ∙ pushed.long;
    each = λ t z lt small.
        marked.each t z (omega (arith, lt, pushed.long))
        ∙ ap (λ (l : List Carrier). has (row_of mid t) z || list_any (is_rival_in k t z) l) is
        ∙ at t z lt small;
  }
    where
      at : (t z : ℕ) → t < length k.txs → z < 512 → (has (row_of mid t) z || list_any (is_rival_in k t z) (drop first k.rows)) ≡ has_rival_in k t z
      at t z lt small =
          elim (cases_lt t (length old)) [
            | inl less ↦ ap (λ (b : Bool). b || list_any (is_rival_in k t z) (drop first k.rows))
                (ap (λ (l : List ℕ). has l z) (pushed.before t less)
                ∙ before.each t z (omega (arith, less, before.long)) small
                ∙ front_marks first t z (omega (arith, less, before.long)))
                ∙ sym (all_parts first t z)
            | inr ge ↦ ap (λ (b : Bool). b || list_any (is_rival_in k t z) (drop first k.rows))
                (ap (λ (l : List ℕ). has l z) (pushed.behind t ge lt)
                ∙ has-places_where (has_rival_in k t) z small
                ∙ all_parts first t z)
                ∙ or_again (list_any (is_rival_in k t z) (take first k.rows)) (list_any (is_rival_in k t z) (drop first k.rows))
                ∙ sym (all_parts first t z)
          ]

  -- ---- fewer blocks

  pub rows_cut : (n left : ℕ) (old new : List (List ℕ)) → left ≡ used (rows_of_first n k.rows) → left ≤ length k.txs → HasRivals k old → AreCut left n left old new
      → HasRivals (cut_to k n) new
  rows_cut n left old new is few h cut = record {
    long = cut.long ∙ sym long;
    each = λ t z lt small.
        ap (λ (l : List ℕ). has l z) (cut.before t (omega (arith, lt, long)))
        ∙ has-filter (λ p. nat_lt p n) (row_of old t) z
        ∙ ap (λ (b : Bool). b && nat_lt z n) (h.each t z (omega (arith, lt, long, few)) small)
        ∙ bool_same (has_rival_in k t z && nat_lt z n) (has_rival_in (cut_to k n) t z) (into t z (omega (arith, lt, long, is))) (back t z (omega (arith, lt, long, is)));
  }
    where
      long : length (cut_to k n).txs ≡ left
      long = length-take-le (used (rows_of_first n k.rows)) k.txs (omega (arith, is, few)) ∙ sym is

      there : (u : ℕ) → u < used (rows_of_first n k.rows) → tx_at (cut_to k n) u ≡ tx_at k u
      there u lt = get_or-take (used (rows_of_first n k.rows)) k.txs u (of_parts [] []) lt

      same : (t z : ℕ) (r : Carrier) → t < used (rows_of_first n k.rows) → IsIn (rows_of_first n k.rows) r → is_rival_in (cut_to k n) t z r ≡ is_rival_in k t z r
      same t z r lt in_r =
          let below : r.tx < used (rows_of_first n k.rows) =
          member_meets (λ (q : Carrier). q.tx < used (rows_of_first n k.rows)) (rows_of_first n k.rows) r (all_used 0 (rows_of_first n k.rows)) in_r in
          ap (λ (x : Transaction). r.sound && (eqb z r.block && conflicts (payment_of x) (payment_of (tx_at (cut_to k n) r.tx)))) (there t lt)
          ∙ ap (λ (x : Transaction). r.sound && (eqb z r.block && conflicts (payment_of (tx_at k t)) (payment_of x))) (there r.tx below)

      block_is : (t z : ℕ) (r : Carrier) → is_rival_in k t z r ≡ true → z ≡ r.block
      block_is t z r h = eqb-true z r.block (and_parts (eqb z r.block) _ (and_parts r.sound _ h).1).0

      into : (t z : ℕ) → t < used (rows_of_first n k.rows) → (has_rival_in k t z && nat_lt z n) ≡ true → has_rival_in (cut_to k n) t z ≡ true
      into t z lt both =
          let p : (has_rival_in k t z ≡ true) × (nat_lt z n ≡ true) = and_parts (has_rival_in k t z) (nat_lt z n) both in
          let r : (r : Carrier) × IsIn k.rows r × (is_rival_in k t z r ≡ true) = member_of_any (is_rival_in k t z) k.rows p.0 in
          let here : IsIn (rows_of_first n k.rows) r.0 =
          in_filter_from (λ (r : Carrier). nat_lt r.block n) k.rows r.0 r.1 (ap (λ (w : ℕ). nat_lt w n) (sym (block_is t z r.0 r.2)) ∙ p.1) in
          any_of_member (is_rival_in (cut_to k n) t z) (rows_of_first n k.rows) r.0 here (same t z r.0 lt here ∙ r.2)

      back : (t z : ℕ) → t < used (rows_of_first n k.rows) → has_rival_in (cut_to k n) t z ≡ true → (has_rival_in k t z && nat_lt z n) ≡ true
      back t z lt h =
          let r : (r : Carrier) × IsIn (rows_of_first n k.rows) r × (is_rival_in (cut_to k n) t z r ≡ true) =
          member_of_any (is_rival_in (cut_to k n) t z) (rows_of_first n k.rows) h in
          let p : IsIn k.rows r.0 × (nat_lt r.0.block n ≡ true) = in_filter (λ (r : Carrier). nat_lt r.block n) k.rows r.0 r.1 in
          let rival : is_rival_in k t z r.0 ≡ true = sym (same t z r.0 lt r.1) ∙ r.2 in
          and_from (has_rival_in k t z) (nat_lt z n) (any_of_member (is_rival_in k t z) k.rows r.0 p.0 rival)
          (ap (λ (w : ℕ). nat_lt w n) (block_is t z r.0 rival) ∙ p.1)

-- of no carriers
pub no_rivals : HasRivals (record { blocks = 0; txs = []; rows = [] }) []
no_rivals = record { long = refl; each = λ t z lt. absurd (omega (arith, lt)) }
