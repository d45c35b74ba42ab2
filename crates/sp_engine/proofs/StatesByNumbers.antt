-- The state of a transaction is that of its number: the ledger of the kept blocks is that of the numbered ones under their ids.
use Rattle.std.proofs.Common.{◌≡◌, ◌<◌, ℕ, zero, suc, Bool, true, false, List, [], ◌∷◌, ◌++◌, length, map, get_or, refl, sym, ap, subst, ◌∙◌, eqb, Option, Some, None, arith}
use Rattle.std.specs.Prelude.{slice_get, flat_map, IsFalse, ◌↔◌}
use Rattle.std.specs.List.{range_with_len}
use Rattle.std.proofs.Math.ListN.{length-map}
use Rattle.std.proofs.lemmas.Bool.{eq-eqb, false≢true}
use Rattle.sp_tx.specs.Parts.{Transaction, of_parts}
use Rattle.sp_tx.specs.Spending.{id_of}
use Rattle.sp_block.specs.Block.{ReadBlock}
use Rattle.sp_model.specs.Graph.{AreDistinct, has, IsDownset}
use Rattle.sp_pool.specs.Kept.{present}
use Rattle.sp_dag.specs.Numbered.{graph_of as numbered_graph, Numbered}
use Rattle.sp_dag.proofs.Ranked.{downset_numbered, IsGraph_numbered, keys_are_numbers}
use Rattle.sp_engine.specs.Votes.{Tallied}
use Rattle.sp_carry.specs.declared.state.TxState.{TxState}
use Rattle.sp_carry.specs.declared.state.TxState.TheVariants.{Absent}
use Rattle.sp_carry.specs.Payment.{Payment, payment_of}
use Rattle.sp_carry.specs.Ledger.{carried, is_accepted, is_carried, IsPlain, state}
use Rattle.sp_carry.specs.Carried.{Carried, first_like, ledger_of as numbered_ledger, number_of, tx_at}
use Rattle.sp_carry.proofs.Conflicts.{in_from_has}
use Rattle.sp_carry.proofs.Finding.{id_at, number_id, number_within}
use Rattle.sp_carry.proofs.Grants.{carried_in}
use Rattle.sp_carry.proofs.Keeping.{none_found}
use Rattle.sp_carry.proofs.Members.{any_of_member, bool_same, in_flat_map, in_flat_map_from, in_map, in_map_from, IsIn, list_in, member_of_any}
use Rattle.sp_carry.specs.Flags.{is_set}
use Rattle.sp_accept.specs.Acceptance.{Acceptance, first_blocks}
use Rattle.sp_accept.specs.States.{state_by_number, state_of_flag, state_of_number}
use Rattle.sp_accept.proofs.Renamed.{accepted_renamed, state_renamed}
use Rattle.sp_accept.proofs.States.{numbered_plain, states}
use Rattle.sp_engine.specs.Engine.{IsAccepting, IsEngine, numbers}
use Rattle.sp_engine.specs.Presence.{order_of}
use Rattle.sp_money.specs.Locks.{each_once}
use Rattle.sp_engine.specs.Transactions.{ledger_by_id, ledger_of, state_of, tx_ids, tx_ids_in, txs_in, txs_of}
use Rattle.sp_engine.proofs.ByIds.{acceptance_agrees, states_agree}
use Rattle.sp_engine.proofs.CarriedBlocks.{are_of, carried_count, has_flipped}
use Rattle.sp_engine.proofs.Counts.{AreDistinct-present}
use Rattle.sp_engine.proofs.WordsByNumbers.{AreRenamed-ids, IsRenamed-ids, number_below}

has_from_in : (set : List ℕ) (z : ℕ) → IsIn set z → has set z ≡ true
has_from_in set z there = any_of_member (λ k. eqb k z) set z there (eq-eqb z z refl)

get_or-map : {A : Type 0} (f : ℕ → A) (xs : List ℕ) (n : ℕ) (d : A) → n < length xs → get_or (map f xs) n d ≡ f (get_or xs n 0)
get_or-map f [] n d lt = absurd (omega (arith, lt))
get_or-map f (x ∷ xs) zero d lt = refl
get_or-map f (x ∷ xs) (suc n) d lt = get_or-map f xs n d (omega (arith, lt))

flat_of_map : (f : ℕ → List Transaction) (xs : List ℕ) → flat_map (λ b. b) (map f xs) ≡ flat_map f xs
flat_of_map f [] = refl
flat_of_map f (x ∷ xs) = ap (λ (l : List Transaction). f x ++ l) (flat_of_map f xs)

module _ {bits genesis : ℕ} {kept : List ReadBlock} {blocks : Numbered} {votes : Tallied} {k : Carried} {a : Acceptance} (e : IsEngine bits kept genesis blocks votes) (h : IsAccepting kept blocks k a) where
  abbrev lists : List (List Transaction)
  lists = map (txs_of kept) blocks.ids

  abbrev flat : List Transaction
  flat = flat_map (λ b. b) lists

  -- ---- what the present blocks carry stands in the lists of the numbered ones

  flat_carried : (t : Transaction) → IsIn flat t → IsIn (carried (ledger_of blocks.profile kept) (present kept)) (payment_of t)
  flat_carried t there =
      let l : (l : List Transaction) × IsIn lists l × IsIn l t = in_flat_map (λ b. b) lists t there in
      let z : (z : ℕ) × IsIn blocks.ids z × (txs_of kept z ≡ l.0) = in_map (txs_of kept) blocks.ids l.0 l.1 in
      carried_in (ledger_of blocks.profile kept) (present kept) z.0 (payment_of t) (sym (e.same z.0) ∙ has_from_in blocks.ids z.0 z.1)
      (in_map_from payment_of (txs_of kept z.0) t (subst (λ (ts : List Transaction). IsIn ts t) (sym z.2) l.2))

  carried_flat : (p : Payment) → IsIn (carried (ledger_of blocks.profile kept) (present kept)) p → (t : Transaction) × IsIn flat t × (payment_of t ≡ p)
  carried_flat p there =
      let z : (z : ℕ) × IsIn (present kept) z × IsIn (map payment_of (txs_of kept z)) p = in_flat_map (ledger_of blocks.profile kept).txs (present kept) p there in
      let t : (t : Transaction) × IsIn (txs_of kept z.0) t × (payment_of t ≡ p) = in_map payment_of (txs_of kept z.0) p z.2 in
      let numbered : IsIn blocks.ids z.0 = in_from_has blocks.ids z.0 (e.same z.0 ∙ has_from_in (present kept) z.0 z.1) in
      (t.0, in_flat_map_from (λ b. b) lists (txs_of kept z.0) t.0 (in_map_from (txs_of kept) blocks.ids z.0 numbered) t.1, t.2)

  -- an id is carried where a number has it
  carried_is : (id : ℕ) → is_carried (ledger_of blocks.profile kept) (present kept) id ≡ has (map id_of k.txs) id
  carried_is id = bool_same (is_carried (ledger_of blocks.profile kept) (present kept) id) (has (map id_of flat) id) there back ∙ sym (h.carriers.theirs.ids id)
    where
      there : is_carried (ledger_of blocks.profile kept) (present kept) id ≡ true → has (map id_of flat) id ≡ true
      there c =
          let p : (p : Payment) × IsIn (carried (ledger_of blocks.profile kept) (present kept)) p × (eqb p.id id ≡ true) =
          member_of_any (λ (p : Payment). eqb p.id id) (carried (ledger_of blocks.profile kept) (present kept)) c in
          let t : (t : Transaction) × IsIn flat t × (payment_of t ≡ p.0) = carried_flat p.0 p.1 in
          any_of_member (λ i. eqb i id) (map id_of flat) (id_of t.0) (in_map_from id_of flat t.0 t.1) (ap (λ (q : Payment). eqb q.id id) t.2 ∙ p.2)

      back : has (map id_of flat) id ≡ true → is_carried (ledger_of blocks.profile kept) (present kept) id ≡ true
      back c =
          let i : (i : ℕ) × IsIn (map id_of flat) i × (eqb i id ≡ true) = member_of_any (λ i. eqb i id) (map id_of flat) c in
          let t : (t : Transaction) × IsIn flat t × (id_of t ≡ i.0) = in_map id_of flat i.0 i.1 in
          any_of_member (λ (p : Payment). eqb p.id id) (carried (ledger_of blocks.profile kept) (present kept)) (payment_of t.0) (flat_carried t.0 t.1)
          (ap (λ (j : ℕ). eqb j id) t.2 ∙ i.2)

  -- ---- no number, no carrier

  number_none : (id : ℕ) → number_of k id ≡ None → has (map id_of k.txs) id ≡ false
  number_none id e = has_flipped (map id_of k.txs) id ∙ none_found (map id_of k.txs) id e

  number_some : (id n : ℕ) → number_of k id ≡ Some n → has (map id_of k.txs) id ≡ true
  number_some id n e =
      any_of_member (λ i. eqb i id) (map id_of k.txs) (id_of (tx_at k n)) (in_map_from id_of k.txs (tx_at k n) (list_in k.txs n (of_parts [] []) (number_within k id n e)))
      (eq-eqb (id_of (tx_at k n)) id (number_id k id n e))

  pub absent_is : (id : ℕ) (r : TxState) → r ≡ state_by_number k a.txs id → (r ≡ Absent) ↔ IsFalse (is_carried (ledger_of blocks.profile kept) (present kept) id)
  absent_is id r is = at (number_of k id) refl
    where
      flagged : (b : Bool) → state_of_flag b ≡ Absent → ⊥
      flagged true e = cc
      flagged false e = cc

      at : (o : Option ℕ) → number_of k id ≡ o → (r ≡ Absent) ↔ IsFalse (is_carried (ledger_of blocks.profile kept) (present kept) id)
      at None e = (λ _. carried_is id ∙ number_none id e, λ _. is ∙ ap (state_of_number a.txs) e)
      at (Some n) e = (
        λ absent. absurd (flagged (is_set a.txs n) (sym (ap (state_of_number a.txs) e) ∙ sym is ∙ absent)),
        λ none. absurd (false≢true (sym none ∙ carried_is id ∙ number_some id n e)),
      )

  -- ---- the ledger of the kept blocks is that of the numbered ones under their ids

  count : length blocks.ids ≡ length blocks.parents
  count = e.in_order.long

  set_is : first_blocks a.blocks ≡ numbers blocks
  set_is = ap (range_with_len 0) (h.all ∙ carried_count kept blocks k e.in_order h.carriers)

  number_small : (w : ℕ) → has (numbers blocks) w ≡ true → w < length blocks.parents
  number_small w there = number_below blocks w there

  all_txs : flat ≡ txs_in kept (order_of kept)
  all_txs = flat_of_map (txs_of kept) blocks.ids ∙ ap (txs_in kept) e.order

  txs_are : (w : ℕ) → has (numbers blocks) w ≡ true → (ledger_by_id blocks.profile kept).txs (get_or blocks.ids w 0) ≡ (numbered_ledger blocks k).txs w
  txs_are w there =
      let small : w < length blocks.ids = (let s : w < length blocks.parents = number_small w there in omega (arith, s, count)) in
      sym (h.carriers.theirs.theirs w (omega (arith, small, length-map blocks.ids (txs_of kept)))
      ∙ ap (map (λ (t : Transaction). payment_of (first_like flat t))) (get_or-map (txs_of kept) blocks.ids w [] small)
      ∙ ap (λ (all : List Transaction). map (λ (t : Transaction). payment_of (first_like all t)) (txs_of kept (get_or blocks.ids w 0))) all_txs)

  down : IsDownset (numbered_graph blocks) (numbers blocks)
  down = subst (λ (l : List ℕ). IsDownset (numbered_graph blocks) l) (keys_are_numbers blocks) (downset_numbered blocks e.in_order.order)

  once : AreDistinct (numbers blocks)
  once = subst (λ (l : List ℕ). AreDistinct l) (keys_are_numbers blocks) (IsGraph_numbered blocks e.in_order).distinct

  pub state_is : (id : ℕ) (r : TxState) → r ≡ state_by_number k a.txs id → r ≡ state_of blocks.profile kept id
  unfolding state_of
  state_is id r is =
      is ∙ sym (states blocks k a h.carriers.carried (are_of kept blocks k e.in_order h.carriers) h.right h.all id)
      ∙ ap (λ (s : List ℕ). state (numbered_ledger blocks k) s id) set_is
      ∙ sym (state_renamed (λ n. get_or blocks.ids n 0) (numbered_ledger blocks k) (ledger_by_id blocks.profile kept) (numbers blocks) (present kept) id
      (IsRenamed-ids kept blocks e.all_kept e.in_order e.numbered) down (AreRenamed-ids kept blocks e.all_kept e.in_order e.numbered e.same)
      once (AreDistinct-present kept e.all_kept.apart) txs_are (numbered_plain blocks k (numbers blocks) h.carriers.carried))

  pub plain_state_is : (id : ℕ) (r : TxState) → r ≡ state_by_number k a.txs id → IsPlain (ledger_of blocks.profile kept) (present kept) → r ≡ state (ledger_of blocks.profile kept) (present kept) id
  plain_state_is id r is plain = state_is id r is ∙ states_agree blocks.profile kept e.all_kept.apart plain id

  -- ---- transactions in order

  pub ids_are : tx_ids kept ≡ map id_of k.txs
  ids_are = ap (λ (l : List ℕ). each_once (tx_ids_in kept l)) (sym e.order) ∙ sym h.carriers.ids

  pub ids_carried : (id : ℕ) → has (tx_ids kept) id ≡ is_carried (ledger_of blocks.profile kept) (present kept) id
  ids_carried id = ap (λ (l : List ℕ). has l id) ids_are ∙ sym (carried_is id)

  pub ids_once : AreDistinct (tx_ids kept)
  ids_once = subst (λ (l : List ℕ). AreDistinct l) (sym ids_are) h.carriers.carried.linked.ids

  pub txs_counted : length k.txs ≡ length (tx_ids kept)
  txs_counted = sym (ap length ids_are ∙ length-map k.txs id_of)

  pub id_of_number : (i : ℕ) → i < length k.txs → slice_get (tx_ids kept) i ≡ Some (id_of (tx_at k i))
  id_of_number i lt = ap (λ (l : List ℕ). slice_get l i) ids_are ∙ id_at k.txs i lt

  pub accepted_is : (i : ℕ) → i < length k.txs → is_set a.txs i ≡ is_accepted (ledger_by_id blocks.profile kept) (present kept) (id_of (tx_at k i))
  accepted_is i lt =
      h.right.txs i lt
      ∙ ap (λ (s : List ℕ). is_accepted (numbered_ledger blocks k) s (id_of (tx_at k i))) set_is
      ∙ sym (accepted_renamed (λ n. get_or blocks.ids n 0) (numbered_ledger blocks k) (ledger_by_id blocks.profile kept) (numbers blocks) (present kept) (id_of (tx_at k i))
      (IsRenamed-ids kept blocks e.all_kept e.in_order e.numbered) down (AreRenamed-ids kept blocks e.all_kept e.in_order e.numbered e.same)
      once (AreDistinct-present kept e.all_kept.apart) txs_are (numbered_plain blocks k (numbers blocks) h.carriers.carried))

  pub plain_accepted_is : (i : ℕ) → i < length k.txs → IsPlain (ledger_of blocks.profile kept) (present kept)
      → is_set a.txs i ≡ is_accepted (ledger_of blocks.profile kept) (present kept) (id_of (tx_at k i))
  plain_accepted_is i lt plain = accepted_is i lt ∙ acceptance_agrees blocks.profile kept e.all_kept.apart plain (id_of (tx_at k i))
