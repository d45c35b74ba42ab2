-- Where no two transactions of the present blocks have one id, what is left by ids is what the blocks' own transactions leave.
use Rattle.std.proofs.Common.{◌≡◌, ℕ, true, List, refl, sym, subst, ◌∙◌, eqb}
use Rattle.std.proofs.lemmas.Bool.{eq-eqb}
use Rattle.sp_tx.specs.Parts.{Transaction}
use Rattle.sp_block.specs.Block.{ReadBlock}
use Rattle.sp_model.specs.declared.profile.Profile.{Profile}
use Rattle.sp_model.specs.Graph.{has}
use Rattle.sp_pool.specs.Kept.{AreApart, present}
use Rattle.sp_carry.specs.Payment.{Payment, payment_of}
use Rattle.sp_carry.specs.Ledger.{accepted_carriers, carried, IsPlain}
use Rattle.sp_carry.specs.Money.{accepted_txs, balance}
use Rattle.sp_carry.specs.Carried.{first_like}
use Rattle.sp_carry.proofs.Balances.{balance_same}
use Rattle.sp_carry.proofs.Conflicts.{in_from_has}
use Rattle.sp_carry.proofs.Firsts.{found_in}
use Rattle.sp_carry.proofs.Grants.{carried_in, firsts_ids}
use Rattle.sp_carry.proofs.Members.{any_of_member, contains_from_in, in_flat_map, in_flat_map_from, in_map, in_map_from, IsIn}
use Rattle.sp_engine.specs.Presence.{order_of}
use Rattle.sp_engine.specs.Transactions.{balance_by_id, ledger_by_id, ledger_of, txs_in, txs_of}
use Rattle.sp_engine.proofs.ByIds.{acceptance_agrees}
use Rattle.sp_engine.proofs.OrderOfAll.{in_order}
use Rattle.sp_engine.proofs.SameBalances.{carried_accepted, id_accepted, is_among_accepted}

has_in : (set : List ℕ) (z : ℕ) → IsIn set z → has set z ≡ true
has_in set z there = any_of_member (λ k. eqb k z) set z there (eq-eqb z z refl)

module _ (profile : Profile) (kept : List ReadBlock) (apart : AreApart kept) where
  abbrev all_txs : List Transaction
  all_txs = txs_in kept (order_of kept)

  has_order : (z : ℕ) → has (order_of kept) z ≡ has (present kept) z
  has_order z = in_order kept apart z

  -- what is carried by ids is carried as itself
  own_carried : (p : Payment) → IsIn (carried (ledger_by_id profile kept) (present kept)) p → IsIn (carried (ledger_of profile kept) (present kept)) p
  own_carried p there =
      let z : (z : ℕ) × IsIn (present kept) z × IsIn ((ledger_by_id profile kept).txs z) p = in_flat_map (ledger_by_id profile kept).txs (present kept) p there in
      let t : (t : Transaction) × IsIn (txs_of kept z.0) t × (payment_of (first_like all_txs t) ≡ p) =
      in_map (λ t. payment_of (first_like all_txs t)) (txs_of kept z.0) p z.2 in
      let ordered : IsIn (order_of kept) z.0 = in_from_has (order_of kept) z.0 (has_order z.0 ∙ has_in (present kept) z.0 z.1) in
      let found : IsIn all_txs (first_like all_txs t.0) = (found_in all_txs t.0 (in_flat_map_from (txs_of kept) (order_of kept) z.0 t.0 ordered t.1)).0 in
      let w : (w : ℕ) × IsIn (order_of kept) w × IsIn (txs_of kept w) (first_like all_txs t.0) = in_flat_map (txs_of kept) (order_of kept) (first_like all_txs t.0) found in
      subst (λ (q : Payment). IsIn (carried (ledger_of profile kept) (present kept)) q) t.2
      (carried_in (ledger_of profile kept) (present kept) w.0 (payment_of (first_like all_txs t.0)) (sym (has_order w.0) ∙ has_in (order_of kept) w.0 w.1)
      (in_map_from payment_of (txs_of kept w.0) (first_like all_txs t.0) w.2))

  balances_own : (lock : ℕ) → IsPlain (ledger_of profile kept) (present kept)
      → balance (ledger_by_id profile kept) (present kept) lock ≡ balance (ledger_of profile kept) (present kept) lock
  balances_own lock plain =
      balance_same (accepted_txs (ledger_by_id profile kept) (present kept)) (accepted_txs (ledger_of profile kept) (present kept)) lock
      (firsts_ids (accepted_carriers (ledger_by_id profile kept) (present kept))) (firsts_ids (accepted_carriers (ledger_of profile kept) (present kept))) into back
    where
      one : (p u : Payment) → IsIn (carried (ledger_of profile kept) (present kept)) p → IsIn (carried (ledger_of profile kept) (present kept)) u → u.id ≡ p.id → u ≡ p
      one p u p_in u_in same =
          plain u p (contains_from_in (carried (ledger_of profile kept) (present kept)) u u_in) (contains_from_in (carried (ledger_of profile kept) (present kept)) p p_in) same

      into : (p : Payment) → IsIn (accepted_txs (ledger_by_id profile kept) (present kept)) p → IsIn (accepted_txs (ledger_of profile kept) (present kept)) p
      into p there =
          is_among_accepted (ledger_of profile kept) (present kept) p
          (sym (acceptance_agrees profile kept apart plain p.id) ∙ id_accepted (ledger_by_id profile kept) (present kept) p there)
          (λ u u_in same. one p u (own_carried p (carried_accepted (ledger_by_id profile kept) (present kept) p there)) u_in same)

      back : (p : Payment) → IsIn (accepted_txs (ledger_of profile kept) (present kept)) p → IsIn (accepted_txs (ledger_by_id profile kept) (present kept)) p
      back p there =
          is_among_accepted (ledger_by_id profile kept) (present kept) p
          (acceptance_agrees profile kept apart plain p.id ∙ id_accepted (ledger_of profile kept) (present kept) p there)
          (λ u u_in same. one p u (carried_accepted (ledger_of profile kept) (present kept) p there) (own_carried u u_in) same)

  pub balances_agree : IsPlain (ledger_of profile kept) (present kept) → (lock : ℕ) → balance_by_id profile kept lock ≡ balance (ledger_of profile kept) (present kept) lock
  unfolding balance_by_id
  balances_agree plain lock = balances_own lock plain
