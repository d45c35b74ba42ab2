-- Ids by number: in the ledger of the carriers each id is one payment, and has its state by the flag of its number.
use Rattle.std.proofs.Common.{◌≡◌, ℕ, ◌<◌, Bool, true, false, List, [], ◌∷◌, map, length, get_or, Some, None, refl, sym, ap, ◌∙◌, inl, arith, eqb}
use Rattle.std.specs.Prelude.{Option}
use Rattle.std.specs.List.{range_with_len}
use Rattle.std.proofs.Math.ListN.{length-map}
use Rattle.std.proofs.lemmas.Bool.{eqb-true, eq-eqb, false_from_ne_true}
use Rattle.std.proofs.lemmas.List.Quantifiers.{position-Some}
use Rattle.sp_model.specs.Graph.{has, keys}
use Rattle.sp_tx.specs.Spending.{id_of}
use Rattle.sp_dag.specs.Numbered.{Numbered, graph_of}
use Rattle.sp_dag.proofs.Ranked.{key_in, keys_are_numbers}
use Rattle.sp_carry.specs.Payment.{Payment}
use Rattle.sp_carry.specs.Ledger.{IsPlain, carried, is_accepted, is_carried, state, state_by}
use Rattle.sp_carry.specs.Carried.{Carried, IsCarried, carriers_in, ledger_of, number_of}
use Rattle.sp_carry.proofs.Grants.{carried_in}
use Rattle.sp_carry.proofs.Members.{IsIn, any_of_member, in_flat_map, in_from_contains, member_of_any}
use Rattle.sp_accept.specs.Acceptance.{Acceptance, first_blocks, IsRight}
use Rattle.sp_accept.specs.Rows.{AreOf, payment_at, row_at}
use Rattle.sp_accept.specs.States.{state_by_number, state_of_flag, state_of_number}
use Rattle.sp_accept.proofs.Carriers.{AreRows, carried_at, carries, id_is, one_number, rows_are}
use Rattle.sp_accept.proofs.Numbers.{carrier_of}
use Rattle.sp_accept.proofs.Places.{position_is}

-- one id is one payment
pub numbered_plain : (table : Numbered) (k : Carried) (set : List ℕ) → IsCarried k → IsPlain (ledger_of table k) set
numbered_plain table k set h t u in_t in_u same =
    let kept : AreRows k = rows_are k h in
    let a : (z : ℕ) × IsIn set z × IsIn ((ledger_of table k).txs z) t = in_flat_map (ledger_of table k).txs set t (in_from_contains (carried (ledger_of table k) set) t in_t) in
    let b : (z : ℕ) × IsIn set z × IsIn ((ledger_of table k).txs z) u = in_flat_map (ledger_of table k).txs set u (in_from_contains (carried (ledger_of table k) set) u in_u) in
    let c : (c : ℕ) × (c < length k.rows) × ((row_at k.rows c).block ≡ a.0) × (payment_at k (row_at k.rows c).tx ≡ t) = carried_at k kept a.0 t a.2 in
    let d : (d : ℕ) × (d < length k.rows) × ((row_at k.rows d).block ≡ b.0) × (payment_at k (row_at k.rows d).tx ≡ u) = carried_at k kept b.0 u b.2 in
    let number : (row_at k.rows c.0).tx ≡ (row_at k.rows d.0).tx =
    one_number k kept (row_at k.rows c.0).tx (row_at k.rows d.0).tx (kept.known c.0 c.1) (kept.known d.0 d.1)
    (ap (λ (p : Payment). p.id) c.3 ∙ same ∙ sym (ap (λ (p : Payment). p.id) d.3)) in
    sym c.3 ∙ ap (payment_at k) number ∙ d.3

module _ (table : Numbered) (k : Carried) (a : Acceptance) (h : IsCarried k) (of : AreOf table k) (right : IsRight table k a) (all : a.blocks ≡ k.blocks) where
  kept : AreRows k
  kept = rows_are k h

  set_is : keys (graph_of table) ≡ first_blocks a.blocks
  set_is = keys_are_numbers table ∙ ap (range_with_len 0) (of.long ∙ sym all)

  -- an id that is found is carried
  found_carried : (id tx : ℕ) → number_of k id ≡ Some tx → (tx < length k.txs) × ((payment_at k tx).id ≡ id) × (is_carried (ledger_of table k) (first_blocks a.blocks) id ≡ true)
  found_carried id tx found =
      let p = position-Some (eqb id) (map id_of k.txs) tx 0 found in
      let within : tx < length k.txs = omega (arith, p.0, length-map k.txs id_of) in
      let named : (payment_at k tx).id ≡ id = id_is k kept tx within ∙ sym (eqb-true id (get_or (map id_of k.txs) tx 0) p.1) in
      let c : (c : ℕ) × IsIn (carriers_in k.rows tx) c = some_member (carriers_in k.rows tx) (h.linked.used tx within) in
      let q : (c.0 < length k.rows) × ((row_at k.rows c.0).tx ≡ tx) = carrier_of k.rows tx c.0 c.1 in
      let inside : (row_at k.rows c.0).block < length table.parents = (let b : (row_at k.rows c.0).block < k.blocks = kept.inside c.0 q.0 in omega (arith, b, of.long)) in
      let there : has (first_blocks a.blocks) (row_at k.rows c.0).block ≡ true = rw (← set_is) (key_in table (row_at k.rows c.0).block inside) in (
        within,
        named,
        any_of_member (λ (t : Payment). eqb t.id id) (carried (ledger_of table k) (first_blocks a.blocks)) (payment_at k (row_at k.rows c.0).tx)
            (carried_in (ledger_of table k) (first_blocks a.blocks) (row_at k.rows c.0).block (payment_at k (row_at k.rows c.0).tx) there (carries k kept c.0 q.0))
            (eq-eqb _ id (ap (λ (t : ℕ). (payment_at k t).id) q.1 ∙ named)),
      )
    where
      some_member : (xs : List ℕ) → (xs ≡ [] → ⊥) → (x : ℕ) × IsIn xs x
      some_member [] ne = absurd (ne refl)
      some_member (x ∷ xs) ne = (x, inl refl)

  -- an id that is carried is found
  carried_found : (id : ℕ) → is_carried (ledger_of table k) (first_blocks a.blocks) id ≡ true → (tx : ℕ) × (number_of k id ≡ Some tx)
  carried_found id there =
      let t : (t : Payment) × IsIn (carried (ledger_of table k) (first_blocks a.blocks)) t × (eqb t.id id ≡ true) =
      member_of_any (λ (t : Payment). eqb t.id id) (carried (ledger_of table k) (first_blocks a.blocks)) there in
      let z : (z : ℕ) × IsIn (first_blocks a.blocks) z × IsIn ((ledger_of table k).txs z) t.0 = in_flat_map (ledger_of table k).txs (first_blocks a.blocks) t.0 t.1 in
      let c : (c : ℕ) × (c < length k.rows) × ((row_at k.rows c).block ≡ z.0) × (payment_at k (row_at k.rows c).tx ≡ t.0) = carried_at k kept z.0 t.0 z.2 in
      let known : (row_at k.rows c.0).tx < length k.txs = kept.known c.0 c.1 in (
        (row_at k.rows c.0).tx,
        position_is (map id_of k.txs) id (row_at k.rows c.0).tx kept.distinct (omega (arith, known, length-map k.txs id_of))
            (sym (id_is k kept (row_at k.rows c.0).tx known) ∙ ap (λ (p : Payment). p.id) c.3 ∙ eqb-true t.0.id id t.2),
      )

  pub states : (id : ℕ) → state (ledger_of table k) (first_blocks a.blocks) id ≡ state_by_number k a.txs id
  states id = at (number_of k id) refl
    where
      by_flag : (b : Bool) → state_by true b ≡ state_of_flag b
      by_flag true = refl
      by_flag false = refl

      at : (o : Option ℕ) → number_of k id ≡ o → state (ledger_of table k) (first_blocks a.blocks) id ≡ state_of_number a.txs o
      at None e =
          ap (λ (b : Bool). state_by b (is_accepted (ledger_of table k) (first_blocks a.blocks) id))
          (false_from_ne_true (is_carried (ledger_of table k) (first_blocks a.blocks) id)
          (λ there. (let f : (tx : ℕ) × (number_of k id ≡ Some tx) = carried_found id there in let clash : None ≡ Some f.0 = sym e ∙ f.1 in (let none : ⊥ = cc in none))))
      at (Some tx) e =
          let f : (tx < length k.txs) × ((payment_at k tx).id ≡ id) × (is_carried (ledger_of table k) (first_blocks a.blocks) id ≡ true) = found_carried id tx e in
          ap (λ (b : Bool). state_by b (is_accepted (ledger_of table k) (first_blocks a.blocks) id)) f.2
          ∙ by_flag (is_accepted (ledger_of table k) (first_blocks a.blocks) id)
          ∙ ap state_of_flag (ap (is_accepted (ledger_of table k) (first_blocks a.blocks)) (sym f.1) ∙ sym (right.txs tx f.0))
