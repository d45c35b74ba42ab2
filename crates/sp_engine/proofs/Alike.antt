-- What two lists with the same kept blocks have in common: the present blocks, the words, what is carried and accepted, and balances.
use Rattle.std.proofs.Common.{◌≡◌, ℕ, true, false, List, length, map, refl, sym, ap, subst, ◌∙◌, inl, inr, eqb}
use Rattle.std.specs.Prelude.{Contains}
use Rattle.std.proofs.lemmas.Bool.{cases_Bool, eq-eqb}
use Rattle.std.proofs.lemmas.List.{length-map, map-id}
use Rattle.std.specs.List.{list_all}
use Rattle.sp_tx.specs.Parts.{Transaction}
use Rattle.sp_tx.specs.Spending.{id_of}
use Rattle.sp_block.specs.Block.{ReadBlock}
use Rattle.sp_model.specs.Graph.{AreDistinct, has, keys, parents_of, round, IsDownset, rank_of}
use Rattle.sp_model.specs.declared.profile.Profile.{Profile}
use Rattle.sp_model.specs.declared.profile.Profile.TheVariants.{One}
use Rattle.sp_model.specs.Renaming.{AreRenamed, IsRenamed}
use Rattle.sp_model.specs.Votes.{word}
use Rattle.sp_model.proofs.Pasts.{complete_downset}
use Rattle.sp_model.proofs.Paths.{complete_least, complete_round}
use Rattle.sp_model.proofs.Renamed.{word_renamed}
use Rattle.sp_model.proofs.Sets.{same_truth}
use Rattle.sp_pool.proofs.Profiles.{downset_in}
use Rattle.sp_pool.specs.Kept.{graph_in, graph_of, ids_of, present}
use Rattle.sp_pool.proofs.Growth.{present_kept, round_from, round_parts}
use Rattle.sp_pool.proofs.Parents.{keys-graph_of}
use Rattle.sp_carry.specs.Payment.{Payment, payment_of}
use Rattle.sp_carry.specs.Ledger.{accepted_carriers, accepts, carried, is_accepted, IsPlain}
use Rattle.sp_carry.specs.Money.{accepted_txs, balance}
use Rattle.sp_carry.proofs.Balances.{balance_same}
use Rattle.sp_carry.proofs.Conflicts.{accepted_from, from_accepted, in_from_has}
use Rattle.sp_carry.proofs.Grants.{carried_in, firsts_has, firsts_ids, firsts_in}
use Rattle.sp_carry.proofs.Members.{any_of_member, contains_from_in, in_flat_map, in_flat_map_from, in_from_contains, IsIn}
use Rattle.sp_accept.proofs.Renamed.{accepted_renamed, accepts_renamed, state_renamed}
use Rattle.sp_engine.specs.Presence.{order_of}
use Rattle.sp_engine.specs.Transactions.{ledger_of, state_of, tx_ids, tx_ids_in, txs_of}
use Rattle.sp_engine.proofs.ByIds.{states_agree}
use Rattle.sp_engine.proofs.Counts.{AreDistinct-present, same_length}
use Rattle.sp_engine.proofs.OrderOfAll.{has_once, in_order}
use Rattle.sp_engine.proofs.OwnBlocks.{own_rank, block_of_id, id_in, own_parents, own_txs}
use Rattle.sp_engine.proofs.SameKept.{AreAlike}

turned : (kept others : List ReadBlock) → AreAlike kept others → AreAlike others kept
turned kept others alike = record { apart = alike.other_apart; other_apart = alike.apart; into = alike.onto; onto = alike.into }

from_in : (ids : List ℕ) (z : ℕ) → IsIn ids z → has ids z ≡ true
from_in ids z h = any_of_member (λ k. eqb k z) ids z h (eq-eqb z z refl)

-- ---- what the one list says, the other says

module _ (kept others : List ReadBlock) (alike : AreAlike kept others) where
  ids_into : (z : ℕ) → has (ids_of kept) z ≡ true → has (ids_of others) z ≡ true
  ids_into z h =
      let b : (b : ReadBlock) × IsIn kept b × (b.id ≡ z) = block_of_id kept z h in
      ap (has (ids_of others)) (sym b.2) ∙ id_in others b.0 (alike.into b.0 b.1)

  parents_same : (z : ℕ) → has (ids_of kept) z ≡ true → parents_of (graph_of others) z ≡ parents_of (graph_of kept) z
  parents_same z h =
      let b : (b : ReadBlock) × IsIn kept b × (b.id ≡ z) = block_of_id kept z h in
      ap (parents_of (graph_of others)) (sym b.2) ∙ own_parents others b.0 alike.other_apart (alike.into b.0 b.1)
      ∙ sym (own_parents kept b.0 alike.apart b.1) ∙ ap (parents_of (graph_of kept)) b.2

  rank_same : (z : ℕ) → has (ids_of kept) z ≡ true → rank_of (graph_of others) z ≡ rank_of (graph_of kept) z
  rank_same z h =
      let b : (b : ReadBlock) × IsIn kept b × (b.id ≡ z) = block_of_id kept z h in
      ap (rank_of (graph_of others)) (sym b.2) ∙ own_rank others b.0 alike.other_apart (alike.into b.0 b.1)
      ∙ sym (own_rank kept b.0 alike.apart b.1) ∙ ap (rank_of (graph_of kept)) b.2

  own_same : (z : ℕ) → has (ids_of kept) z ≡ true → txs_of others z ≡ txs_of kept z
  own_same z h =
      let b : (b : ReadBlock) × IsIn kept b × (b.id ≡ z) = block_of_id kept z h in
      ap (txs_of others) (sym b.2) ∙ own_txs others b.0 alike.other_apart (alike.into b.0 b.1)
      ∙ sym (own_txs kept b.0 alike.apart b.1) ∙ ap (txs_of kept) b.2

  present_into : (z : ℕ) → has (present kept) z ≡ true → has (present others) z ≡ true
  present_into z h = complete_least (graph_of kept) (present others) closed z h
    where
      closed : (z : ℕ) → has (round (graph_of kept) (present others)) z ≡ true → has (present others) z ≡ true
      closed z r =
          let parts = round_parts kept (present others) z r in
          complete_round (graph_of others) z
          (round_from others (present others) z (ids_into z parts.0) (ap (list_all (has (present others))) (parents_same z parts.0) ∙ parts.1))

  txs_same : (z : ℕ) → has (present kept) z ≡ true → (ledger_of One others).txs z ≡ (ledger_of One kept).txs z
  txs_same z h = ap (map payment_of) (own_same z (present_kept kept z h))

  carried_into : (t : Payment) → IsIn (carried (ledger_of One kept) (present kept)) t → IsIn (carried (ledger_of One others) (present others)) t
  carried_into t h =
      let w : (w : ℕ) × IsIn (present kept) w × IsIn ((ledger_of One kept).txs w) t = in_flat_map (ledger_of One kept).txs (present kept) t h in
      let there : has (present kept) w.0 ≡ true = from_in (present kept) w.0 w.1 in
      carried_in (ledger_of One others) (present others) w.0 t (present_into w.0 there) (subst (λ (ts : List Payment). IsIn ts t) (sym (txs_same w.0 there)) w.2)

  tx_ids_into : (id : ℕ) → has (tx_ids kept) id ≡ true → has (tx_ids others) id ≡ true
  tx_ids_into id h =
      let named : IsIn (tx_ids_in kept (order_of kept)) id = in_from_has (tx_ids_in kept (order_of kept)) id (sym (has_once (tx_ids_in kept (order_of kept)) id) ∙ h) in
      let w : (w : ℕ) × IsIn (order_of kept) w × IsIn (map id_of (txs_of kept w)) id = in_flat_map (λ w. map id_of (txs_of kept w)) (order_of kept) id named in
      let there : has (present kept) w.0 ≡ true = sym (in_order kept alike.apart w.0) ∙ from_in (order_of kept) w.0 w.1 in
      let too : has (order_of others) w.0 ≡ true = in_order others alike.other_apart w.0 ∙ present_into w.0 there in
      has_once (tx_ids_in others (order_of others)) id
      ∙ from_in (tx_ids_in others (order_of others)) id
      (in_flat_map_from (λ w. map id_of (txs_of others w)) (order_of others) w.0 id (in_from_has (order_of others) w.0 too)
      (subst (λ (ts : List Transaction). IsIn (map id_of ts) id) (sym (own_same w.0 (present_kept kept w.0 there))) w.2))

-- ---- so both say the same of blocks

module _ (kept others : List ReadBlock) (alike : AreAlike kept others) where
  pub same_present : (z : ℕ) → has (present kept) z ≡ has (present others) z
  same_present z =
      same_truth (has (present kept) z) (has (present others) z) (present_into kept others alike z) (present_into others kept (turned kept others alike) z)

  once : AreDistinct (present kept)
  once = AreDistinct-present kept alike.apart

  other_once : AreDistinct (present others)
  other_once = AreDistinct-present others alike.other_apart

  pub same_present_count : length (present kept) ≡ length (present others)
  same_present_count = same_length (present kept) (present others) once other_once same_present

  pub same_count : length kept ≡ length others
  same_count =
      let ids : length (ids_of kept) ≡ length (ids_of others) =
      same_length (ids_of kept) (ids_of others) alike.apart alike.other_apart
      (λ z. same_truth (has (ids_of kept) z) (has (ids_of others) z) (ids_into kept others alike z) (ids_into others kept (turned kept others alike) z)) in
      sym (length-map kept (λ (b : ReadBlock). b.id)) ∙ ids ∙ length-map others (λ (b : ReadBlock). b.id)

  pub same_tx_ids : (id : ℕ) → has (tx_ids kept) id ≡ has (tx_ids others) id
  same_tx_ids id =
      same_truth (has (tx_ids kept) id) (has (tx_ids others) id) (tx_ids_into kept others alike id) (tx_ids_into others kept (turned kept others alike) id)

  key_id : (z : ℕ) → has (keys (graph_of kept)) z ≡ true → has (ids_of kept) z ≡ true
  key_id z h = sym (ap (λ (l : List ℕ). has l z) (keys-graph_of kept)) ∙ h

  renamed : (profile : Profile) → IsRenamed (λ k. k) (graph_in profile kept) (graph_in profile others)
  renamed profile = record {
    one_to_one = λ a b there too e. e;
    distinct = subst (λ (l : List ℕ). AreDistinct l) (sym (keys-graph_of kept)) alike.apart;
    other_distinct = subst (λ (l : List ℕ). AreDistinct l) (sym (keys-graph_of others)) alike.other_apart;
    into = λ k h. ap (λ (l : List ℕ). has l k) (keys-graph_of others) ∙ ids_into kept others alike k (key_id k h);
    parents = λ k h. parents_same kept others alike k (key_id k h) ∙ sym (map-id (parents_of (graph_of kept) k));
    ranks = λ k h. rank_same kept others alike k (key_id k h);
    profile = refl;
  }

  down : (profile : Profile) → IsDownset (graph_in profile kept) (present kept)
  down profile = downset_in profile kept (present kept) (complete_downset (graph_of kept))

  sets : AreRenamed (λ k. k) (present kept) (present others)
  sets = record { into = λ k h. sym (same_present k) ∙ h; onto = λ k h. (k, same_present k ∙ h, refl) }

  pub same_word : (profile : Profile) (x y : ℕ) → word (graph_in profile others) (present others) x y ≡ word (graph_in profile kept) (present kept) x y
  same_word profile x y = elim (cases_Bool (has (present kept) x)) [
    | inr e ↦ (let other : has (present others) x ≡ false = sym (same_present x) ∙ e in rw (e, other) refl)
    | inl e ↦ elim (cases_Bool (has (present kept) y)) [
      | inr f ↦ (let here : has (present others) x ≡ true = sym (same_present x) ∙ e in let other : has (present others) y ≡ false = sym (same_present y) ∙ f in rw (e, f, here, other) refl)
      | inl f ↦ word_renamed (λ k. k) (graph_in profile kept) (graph_in profile others) (renamed profile) (present kept) (present others) x y (down profile) sets once other_once (key x e) (key y f)
    ]
  ]
    where
      key : (z : ℕ) → has (present kept) z ≡ true → has (keys (graph_of kept)) z ≡ true
      key z h = ap (λ (l : List ℕ). has l z) (keys-graph_of kept) ∙ present_kept kept z h

  -- ---- and of transactions

  pub same_plain : IsPlain (ledger_of One kept) (present kept) → IsPlain (ledger_of One others) (present others)
  same_plain plain t u at_t at_u e = plain t u (back t at_t) (back u at_u) e
    where
      back : (t : Payment) → Contains (carried (ledger_of One others) (present others)) t → Contains (carried (ledger_of One kept) (present kept)) t
      back t h =
          contains_from_in (carried (ledger_of One kept) (present kept)) t
          (carried_into others kept (turned kept others alike) t (in_from_contains (carried (ledger_of One others) (present others)) t h))

  pub same_accepts : (profile : Profile) (z : ℕ) (t : Payment) → IsPlain (ledger_of profile kept) (present kept) → has (present kept) z ≡ true
      → accepts (ledger_of profile others) (present others) z t ≡ accepts (ledger_of profile kept) (present kept) z t
  same_accepts profile z t plain there =
      accepts_renamed (λ k. k) (ledger_of profile kept) (ledger_of profile others) (present kept) (present others) z t (renamed profile) (down profile) sets once other_once
      (txs_same kept others alike) plain there

  pub same_accepted : (profile : Profile) (id : ℕ) → IsPlain (ledger_of profile kept) (present kept) → is_accepted (ledger_of profile others) (present others) id ≡ is_accepted (ledger_of profile kept) (present kept) id
  same_accepted profile id plain =
      accepted_renamed (λ k. k) (ledger_of profile kept) (ledger_of profile others) (present kept) (present others) id (renamed profile) (down profile) sets once other_once
      (txs_same kept others alike) plain

  pub same_state : (profile : Profile) (id : ℕ) → IsPlain (ledger_of profile kept) (present kept) → state_of profile others id ≡ state_of profile kept id
  same_state profile id plain =
      states_agree profile others alike.other_apart (same_plain plain) id
      ∙ state_renamed (λ k. k) (ledger_of profile kept) (ledger_of profile others) (present kept) (present others) id (renamed profile) (down profile) sets once other_once
      (txs_same kept others alike) plain
      ∙ sym (states_agree profile kept alike.apart plain id)

-- ---- and of money

module _ (profile : Profile) (kept others : List ReadBlock) (alike : AreAlike kept others) (plain : IsPlain (ledger_of profile kept) (present kept)) where
  carrier_into : (t : Payment) → IsIn (accepted_carriers (ledger_of profile kept) (present kept)) t → IsIn (accepted_carriers (ledger_of profile others) (present others)) t
  carrier_into t h =
      let w : (w : ℕ) × (has (present kept) w ≡ true) × IsIn ((ledger_of profile kept).txs w) t × (accepts (ledger_of profile kept) (present kept) w t ≡ true) =
      accepted_from (ledger_of profile kept) (present kept) t h in
      from_accepted (ledger_of profile others) (present others) w.0 t (present_into kept others alike w.0 w.1)
      (subst (λ (ts : List Payment). IsIn ts t) (sym (txs_same kept others alike w.0 w.1)) w.2) (same_accepts kept others alike profile w.0 t plain w.1 ∙ w.3)

  carrier_carried : (t : Payment) → IsIn (accepted_carriers (ledger_of profile others) (present others)) t → Contains (carried (ledger_of profile others) (present others)) t
  carrier_carried t h =
      let w : (w : ℕ) × (has (present others) w ≡ true) × IsIn ((ledger_of profile others).txs w) t × (accepts (ledger_of profile others) (present others) w t ≡ true) =
      accepted_from (ledger_of profile others) (present others) t h in
      contains_from_in (carried (ledger_of profile others) (present others)) t (carried_in (ledger_of profile others) (present others) w.0 t w.1 w.2)

  -- the first of an accepted id is the transaction itself
  accepted_into : (t : Payment) → IsIn (accepted_txs (ledger_of profile kept) (present kept)) t → IsIn (accepted_txs (ledger_of profile others) (present others)) t
  accepted_into t h =
      let here : IsIn (accepted_carriers (ledger_of profile others) (present others)) t = carrier_into t (firsts_in (accepted_carriers (ledger_of profile kept) (present kept)) t h) in
      let u : (u : Payment) × IsIn (accepted_txs (ledger_of profile others) (present others)) u × (u.id ≡ t.id) =
      firsts_has (accepted_carriers (ledger_of profile others) (present others)) t here in
      let same : u.0 ≡ t =
      same_plain kept others alike plain u.0 t (carrier_carried u.0 (firsts_in (accepted_carriers (ledger_of profile others) (present others)) u.0 u.1)) (carrier_carried t here) u.2 in
      subst (λ (v : Payment). IsIn (accepted_txs (ledger_of profile others) (present others)) v) same u.1

pub same_balance : (profile : Profile) (kept others : List ReadBlock) (lock : ℕ) → AreAlike kept others → IsPlain (ledger_of profile kept) (present kept)
    → balance (ledger_of profile others) (present others) lock ≡ balance (ledger_of profile kept) (present kept) lock
same_balance profile kept others lock alike plain =
    balance_same (accepted_txs (ledger_of profile others) (present others)) (accepted_txs (ledger_of profile kept) (present kept)) lock
    (firsts_ids (accepted_carriers (ledger_of profile others) (present others))) (firsts_ids (accepted_carriers (ledger_of profile kept) (present kept)))
    (accepted_into profile others kept (turned kept others alike) (same_plain kept others alike plain)) (accepted_into profile kept others alike plain)
