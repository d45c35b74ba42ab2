-- Carriers by number and the ledger that they are.
use Rattle.std.proofs.Common.{◌≡◌, ℕ, ◌<◌, ◌≤◌, true, false, not, [], map, length, get_or, refl, sym, ap, ◌∙◌, inl, inr, arith, eqb}
use Rattle.std.specs.Prelude.{filter}
use Rattle.std.specs.List.{list_any}
use Rattle.std.proofs.lemmas.Bool.{and_parts, and_from, cases_lt, eqb-true, eq-eqb, ne_eqb, not_from_false, not-true, eqb-false}
use Rattle.std.proofs.lemmas.List.{get_or-map}
use Rattle.std.proofs.Math.ListN.{length-map}
use Rattle.sp_ids.specs.declared.outpoint.Outpoint.{Outpoint}
use Rattle.sp_model.specs.Graph.{AreDistinct}
use Rattle.sp_tx.specs.Parts.{of_parts}
use Rattle.sp_tx.specs.Spending.{id_of}
use Rattle.sp_tx.specs.declared.parts.Input.{Input}
use Rattle.sp_dag.proofs.Bools.{eqb_flip}
use Rattle.sp_carry.specs.declared.carrier.Carrier.{Carrier}
use Rattle.sp_carry.specs.Payment.{Payment, Spent, conflicts, is_same_outpoint, spends, spent_by}
use Rattle.sp_carry.specs.Carried.{Carried, IsCarried, payments_in}
use Rattle.sp_carry.specs.Lookups.{is_spent_by}
use Rattle.sp_accept.specs.Rows.{no_row, payment_at, row_at}
use Rattle.sp_carry.proofs.Members.{IsIn, any_agrees, in_map, in_map_from, any_of_member, in_filter, in_filter_from, member_of_any}
use Rattle.sp_accept.specs.Pass.{inputs_at}
use Rattle.sp_accept.proofs.Places.{any_map, in_place, one_place, place_in}

pub same_turned : (a b : Outpoint) → is_same_outpoint a b ≡ is_same_outpoint b a
same_turned a b = (let e : eqb a.tx b.tx ≡ eqb b.tx a.tx = eqb_flip a.tx b.tx in let f : eqb a.index b.index ≡ eqb b.index a.index = eqb_flip a.index b.index in cc)

-- no id stands twice, each carrier has one of the transactions and one of the blocks, and those of a later block come
-- later
pub record AreRows (k : Carried) : Type 0 where
  pub distinct : AreDistinct (map id_of k.txs)
  pub known : (c : ℕ) → c < length k.rows → (row_at k.rows c).tx < length k.txs
  pub inside : (c : ℕ) → c < length k.rows → (row_at k.rows c).block < k.blocks
  pub in_order : (c d : ℕ) → c < d → d < length k.rows → (row_at k.rows c).block ≤ (row_at k.rows d).block

pub rows_are : (k : Carried) → IsCarried k → AreRows k
rows_are k h = record {
  distinct = h.linked.ids;
  known = λ c lt. h.linked.txs c no_row lt;
  inside = λ c lt. h.blocks c no_row lt;
  in_order = λ c d less lt. h.order c d no_row less lt;
}

module _ (k : Carried) (kept : AreRows k) where
  abbrev block_of : ℕ → ℕ
  block_of c = (row_at k.rows c).block

  abbrev tx_of : ℕ → ℕ
  tx_of c = (row_at k.rows c).tx

  abbrev carried_by : ℕ → Payment
  carried_by c = payment_at k (tx_of c)

  -- ---- transactions by number

  pub id_is : (t : ℕ) → t < length k.txs → (payment_at k t).id ≡ get_or (map id_of k.txs) t 0
  id_is t lt = sym (get_or-map id_of k.txs t (of_parts [] []) 0 lt)

  long_ids : length (map id_of k.txs) ≡ length k.txs
  long_ids = length-map k.txs id_of

  -- a transaction stands under one number
  pub one_number : (s t : ℕ) → s < length k.txs → t < length k.txs → (payment_at k s).id ≡ (payment_at k t).id → s ≡ t
  one_number s t ls lt e =
      one_place (map id_of k.txs) s t kept.distinct (omega (arith, long_ids, ls)) (omega (arith, long_ids, lt)) (sym (id_is s ls) ∙ e ∙ id_is t lt)

  -- ---- carriers by number

  pub carried_at : (z : ℕ) (u : Payment) → IsIn (payments_in k z) u → (c : ℕ) × (c < length k.rows) × (block_of c ≡ z) × (carried_by c ≡ u)
  carried_at z u h =
      let r : (r : Carrier) × IsIn (filter (λ (r : Carrier). eqb r.block z) k.rows) r × (payment_at k r.tx ≡ u) =
      in_map (λ (r : Carrier). payment_at k r.tx) (filter (λ (r : Carrier). eqb r.block z) k.rows) u h in
      let p : IsIn k.rows r.0 × (eqb r.0.block z ≡ true) = in_filter (λ (r : Carrier). eqb r.block z) k.rows r.0 r.1 in
      let c : (c : ℕ) × (c < length k.rows) × (row_at k.rows c ≡ r.0) = place_in k.rows no_row r.0 p.0 in
      (c.0, c.1, ap (λ (r : Carrier). r.block) c.2 ∙ eqb-true r.0.block z p.1, ap (λ (r : Carrier). payment_at k r.tx) c.2 ∙ r.2)

  pub carries : (c : ℕ) → c < length k.rows → IsIn (payments_in k (block_of c)) (carried_by c)
  carries c lt =
      in_map_from (λ (r : Carrier). payment_at k r.tx) (filter (λ (r : Carrier). eqb r.block (block_of c)) k.rows) (row_at k.rows c)
      (in_filter_from (λ (r : Carrier). eqb r.block (block_of c)) k.rows (row_at k.rows c) (in_place k.rows no_row c lt) (eq-eqb (block_of c) (block_of c) refl))

  -- a carrier of a lower block has a lower number
  pub lower_first : (c d : ℕ) → c < length k.rows → d < length k.rows → block_of c < block_of d → c < d
  lower_first c d lc ld less =
      elim (cases_lt c d) [
        | inl before ↦ before
        | inr after ↦ elim (cases_lt d c) [
          | inl behind ↦ (let le : block_of d ≤ block_of c = kept.in_order d c behind lc in absurd (omega (arith, le, less)))
          | inr le ↦ (let e : c ≡ d = omega (arith, after, le) in
              let f : block_of c ≡ block_of d = ap block_of e in absurd (omega (arith, f, less)))
        ]
      ]

  -- ---- rivals

  spends_is : (t : ℕ) (from : Outpoint) → spends (payment_at k t) from ≡ is_spent_by from (inputs_at k t)
  spends_is t from =
      any_map spent_by (λ (i : Spent). is_same_outpoint i.from from) (inputs_at k t)
      ∙ any_agrees (λ (i : Input). is_same_outpoint i.from from) (λ (i : Input). is_same_outpoint from i.from) (inputs_at k t)
      (λ i _. same_turned i.from from)

  pub conflict_from : (s t : ℕ) (i : Input) → s < length k.txs → t < length k.txs → IsIn (inputs_at k s) i → is_spent_by i.from (inputs_at k t) ≡ true
      → eqb t s ≡ false → conflicts (payment_at k s) (payment_at k t) ≡ true
  conflict_from s t i ls lt in_i spent apart =
      and_from (not (eqb (payment_at k s).id (payment_at k t).id)) _
      (not_from_false _ (ne_eqb (payment_at k s).id (payment_at k t).id (λ e. eqb-false t s apart (sym (one_number s t ls lt e)))))
      (any_of_member (λ (i : Spent). spends (payment_at k t) i.from) (payment_at k s).inputs (spent_by i)
      (in_map_from spent_by (inputs_at k s) i in_i) (spends_is t i.from ∙ spent))

  pub conflict_to : (s t : ℕ) → s < length k.txs → t < length k.txs → conflicts (payment_at k s) (payment_at k t) ≡ true
      → (i : Input) × IsIn (inputs_at k s) i × (is_spent_by i.from (inputs_at k t) ≡ true) × (eqb t s ≡ false)
  conflict_to s t ls lt h =
      let p : (not (eqb (payment_at k s).id (payment_at k t).id) ≡ true) × (list_any (λ (i : Spent). spends (payment_at k t) i.from) (payment_at k s).inputs ≡ true) =
      and_parts (not (eqb (payment_at k s).id (payment_at k t).id)) _ h in
      let j : (j : Spent) × IsIn (payment_at k s).inputs j × (spends (payment_at k t) j.from ≡ true) =
      member_of_any (λ (i : Spent). spends (payment_at k t) i.from) (payment_at k s).inputs p.1 in
      let i : (i : Input) × IsIn (inputs_at k s) i × (spent_by i ≡ j.0) = in_map spent_by (inputs_at k s) j.0 j.1 in (
        i.0,
        i.1,
        sym (spends_is t i.0.from) ∙ ap (λ (j : Spent). spends (payment_at k t) j.from) i.2 ∙ j.2,
        ne_eqb t s (λ e. eqb-false _ _ (not-true _ p.0) (ap (λ (n : ℕ). (payment_at k n).id) (sym e))),
      )
