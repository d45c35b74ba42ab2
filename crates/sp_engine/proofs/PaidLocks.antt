-- No lock is listed twice, and nothing is left under a lock that isn't listed.
use Rattle.std.proofs.Common.{◌≡◌, ℕ, Bool, true, false, cond, List, [], ◌∷◌, map, refl, sym, ap, ◌∙◌, eqb, inl, inr}
use Rattle.std.specs.Prelude.{filter, flat_map, not}
use Rattle.std.proofs.lemmas.Bool.{eq-eqb, eqb-true, false≢true, false_from_ne_true}
use Rattle.sp_block.specs.Block.{ReadBlock}
use Rattle.sp_model.specs.declared.profile.Profile.{Profile}
use Rattle.sp_model.specs.Graph.{AreDistinct, has}
use Rattle.sp_pool.specs.Kept.{AreApart, present}
use Rattle.sp_carry.specs.Payment.{Payment}
use Rattle.sp_carry.specs.Ledger.{carried}
use Rattle.sp_carry.specs.Money.{accepted_txs, Coin, coins, is_spent, unspent, worth}
use Rattle.sp_carry.proofs.Conflicts.{in_from_has}
use Rattle.sp_carry.proofs.Members.{any_of_member, in_filter, in_flat_map, in_flat_map_from, in_map_from, IsIn}
use Rattle.sp_engine.specs.Presence.{order_of}
use Rattle.sp_engine.specs.Transactions.{firsts_of, balance_by_id, ledger_by_id, locks}
use Rattle.sp_engine.proofs.EachOnce.{each_is_once}
use Rattle.sp_engine.proofs.OrderOfAll.{has_once, in_order}
use Rattle.sp_engine.proofs.SameBalances.{carried_accepted}

pub locks_once : (kept : List ReadBlock) → AreDistinct (locks kept)
locks_once kept = each_is_once (map (λ (c : Coin). c.lock) (flat_map coins (flat_map (firsts_of kept) (order_of kept))))

-- ---- nothing is left under another lock

none_pass : (p : Coin → Bool) (cs : List Coin) → ((c : Coin) → IsIn cs c → p c ≡ false) → filter p cs ≡ []
none_pass p [] h = refl
none_pass p (c ∷ cs) h =
    ap (λ (b : Bool). cond b (c ∷ filter p cs) (filter p cs)) (h c (inl refl)) ∙ none_pass p cs (λ d there. h d (inr there))

module _ (profile : Profile) (kept : List ReadBlock) (apart : AreApart kept) where
  -- what is carried is so in the order of presence, too
  in_turn : (p : Payment) → IsIn (carried (ledger_by_id profile kept) (present kept)) p → IsIn (carried (ledger_by_id profile kept) (order_of kept)) p
  in_turn p there =
      let z = in_flat_map (ledger_by_id profile kept).txs (present kept) p there in
      in_flat_map_from (ledger_by_id profile kept).txs (order_of kept) z.0 p
      (in_from_has (order_of kept) z.0 (in_order kept apart z.0 ∙ any_of_member (λ k. eqb k z.0) (present kept) z.0 z.1 (eq-eqb z.0 z.0 refl))) z.2

  -- the lock of an accepted output is listed
  is_listed : (c : Coin) → IsIn (flat_map coins (accepted_txs (ledger_by_id profile kept) (present kept))) c → has (locks kept) c.lock ≡ true
  is_listed c there =
      let p = in_flat_map coins (accepted_txs (ledger_by_id profile kept) (present kept)) c there in
      let all = flat_map coins (carried (ledger_by_id profile kept) (order_of kept)) in
      let in_all : IsIn all c = in_flat_map_from coins (carried (ledger_by_id profile kept) (order_of kept)) p.0 c
      (in_turn p.0 (carried_accepted (ledger_by_id profile kept) (present kept) p.0 p.1)) p.2 in
      has_once (map (λ (d : Coin). d.lock) all) c.lock
      ∙ any_of_member (λ k. eqb k c.lock) (map (λ (d : Coin). d.lock) all) c.lock (in_map_from (λ (d : Coin). d.lock) all c in_all) (eq-eqb c.lock c.lock refl)

  pub unpaid : (lock : ℕ) → has (locks kept) lock ≡ false → balance_by_id profile kept lock ≡ 0
  unfolding balance_by_id
  unpaid lock none =
      let txs = accepted_txs (ledger_by_id profile kept) (present kept) in
      ap worth (none_pass (λ (c : Coin). eqb c.lock lock) (unspent txs) (λ c there.
      false_from_ne_true (eqb c.lock lock) (λ same.
      false≢true (sym none ∙ ap (has (locks kept)) (sym (eqb-true c.lock lock same)) ∙ is_listed c (in_filter (λ c. not (is_spent txs c)) (flat_map coins txs) c there).0))))
