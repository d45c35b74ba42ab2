-- Balances and locks of the kept blocks are those of the numbered transactions, each of which is counted where it is accepted.
use Rattle.std.proofs.Common.{◌≡◌, ◌<◌, ℕ, zero, suc, Bool, true, false, cond, List, [], ◌∷◌, ◌++◌, length, map, get_or, refl, sym, ap, subst, ◌∙◌, eqb, inl, inr, arith}
use Rattle.std.specs.Prelude.{filter, flat_map, slice_index_or}
use Rattle.std.proofs.lemmas.Bool.{eq-eqb, false≢true, false_from_ne_true, eqb-true}
use Rattle.std.proofs.lemmas.List.{map-append}
use Rattle.std.proofs.lemmas.List.Folds.{flat_map-map}
use Rattle.std.proofs.Math.ListN.{length-map}
use Rattle.sp_tx.specs.declared.parts.Output.{Output}
use Rattle.sp_tx.specs.Parts.{Transaction, of_parts}
use Rattle.sp_tx.specs.Spending.{id_of}
use Rattle.sp_block.specs.Block.{ReadBlock}
use Rattle.sp_model.specs.Graph.{AreDistinct, has}
use Rattle.sp_pool.specs.Kept.{present}
use Rattle.sp_dag.specs.Numbered.{Numbered}
use Rattle.sp_engine.specs.Votes.{Tallied}
use Rattle.sp_carry.specs.declared.carrier.Carrier.{Carrier}
use Rattle.sp_carry.specs.Payment.{Payment, payment_of}
use Rattle.sp_carry.specs.Ledger.{accepted_carriers, carried, is_accepted}
use Rattle.sp_carry.specs.Money.{accepted_txs, balance, balance_of, Coin, coins, coins_from}
use Rattle.sp_carry.specs.Carried.{Carried, first_like, payments_in, tx_at}
use Rattle.sp_carry.proofs.Balances.{balance_same}
use Rattle.sp_carry.proofs.Conflicts.{in_from_has}
use Rattle.sp_carry.proofs.Firsts.{found_in, likes_named, named, named_same}
use Rattle.sp_carry.proofs.Grants.{firsts_ids}
use Rattle.sp_carry.proofs.Sums.{Pairwise}
use Rattle.sp_carry.proofs.Members.{any_of_member, contains_from_in, in_filter, in_flat_map, in_map, in_map_from, IsIn, list_in, member_meets, member_of_any}
use Rattle.sp_carry.specs.Flags.{is_set}
use Rattle.sp_accept.specs.Acceptance.{Acceptance}
use Rattle.sp_money.specs.Accepted.{accepted_in}
use Rattle.sp_money.specs.Locks.{each_once, locks_of}
use Rattle.sp_engine.specs.Engine.{IsAccepting, IsEngine}
use Rattle.sp_engine.specs.Presence.{order_of}
use Rattle.sp_engine.specs.Transactions.{balance_by_id, ledger_by_id, locks, tx_ids_in, txs_in, txs_of}
use Rattle.sp_engine.proofs.SameBalances.{carried_accepted, id_accepted, id_in, ids_apart, is_among_accepted}
use Rattle.sp_engine.proofs.EachOnce.{once_of_once}
use Rattle.sp_engine.proofs.StatesByNumbers.{accepted_is}

-- ---- lists

has_in : (set : List ℕ) (z : ℕ) → IsIn set z → has set z ≡ true
has_in set z there = any_of_member (λ k. eqb k z) set z there (eq-eqb z z refl)

map_on : {A B : Type 0} (f g : A → B) (xs : List A) → ((x : A) → IsIn xs x → f x ≡ g x) → map f xs ≡ map g xs
map_on f g [] h = refl
map_on {A} {B} f g (x ∷ xs) h = ap (λ (y : B). y ∷ map f xs) (h x (inl refl)) ∙ ap (λ (l : List B). g x ∷ l) (map_on f g xs (λ y there. h y (inr there)))

flat_of_maps : {A B : Type 0} (g : A → B) (f : ℕ → List A) (zs : List ℕ) → flat_map (λ z. map g (f z)) zs ≡ map g (flat_map f zs)
flat_of_maps g f [] = refl
flat_of_maps {A} {B} g f (z ∷ zs) = ap (λ (l : List B). map g (f z) ++ l) (flat_of_maps g f zs) ∙ sym (map-append g (f z) (flat_map f zs))

mapped_at : {A : Type 0} (f : ℕ → A) (xs : List ℕ) (n : ℕ) (d : A) (e : ℕ) → n < length xs → get_or (map f xs) n d ≡ f (get_or xs n e)
mapped_at f [] n d e lt = absurd (omega (arith, lt))
mapped_at f (x ∷ xs) zero d e lt = refl
mapped_at f (x ∷ xs) (suc n) d e lt = mapped_at f xs n d e (omega (arith, lt))

-- of transactions with different ids only one has an id
one_tx : (ts : List Transaction) (t u : Transaction) → AreDistinct (map id_of ts) → IsIn ts t → IsIn ts u → id_of t ≡ id_of u → t ≡ u
one_tx [] t u apart t_in u_in same = absurd t_in
one_tx (x ∷ xs) t u apart t_in u_in same =
    elim t_in [
      | inl e ↦ elim u_in [
        | inl f ↦ sym e ∙ f
        | inr f ↦ absurd (clash u f (sym same ∙ sym (ap id_of e)))
      ]
      | inr e ↦ elim u_in [
        | inl f ↦ absurd (clash t e (same ∙ sym (ap id_of f)))
        | inr f ↦ one_tx xs t u apart.1 e f same
      ]
    ]
  where
    clash : (v : Transaction) → IsIn xs v → id_of v ≡ id_of x → ⊥
    clash v v_in e = false≢true (sym apart.0 ∙ any_of_member (λ i. eqb i (id_of x)) (map id_of xs) (id_of v) (in_map_from id_of xs v v_in) (eq-eqb (id_of v) (id_of x) e))

-- ---- transactions whose flag is set

in_accepted : (ts : List Transaction) (flags : List Bool) (p : Payment) → IsIn (accepted_in ts flags) p
    → (n : ℕ) × (n < length ts) × (slice_index_or flags n false ≡ true) × (payment_of (slice_index_or ts n (of_parts [] [])) ≡ p)
in_accepted [] flags p h = absurd h
in_accepted (t ∷ ts) [] p h = absurd h
in_accepted (t ∷ ts) (b ∷ bs) p h = at b (in_accepted ts bs p) h
  where
    at : (c : Bool) → (IsIn (accepted_in ts bs) p → (n : ℕ) × (n < length ts) × (slice_index_or bs n false ≡ true) × (payment_of (slice_index_or ts n (of_parts [] [])) ≡ p))
        → IsIn (cond c (payment_of t ∷ accepted_in ts bs) (accepted_in ts bs)) p
        → (n : ℕ) × (n < length (t ∷ ts)) × (slice_index_or (c ∷ bs) n false ≡ true) × (payment_of (slice_index_or (t ∷ ts) n (of_parts [] [])) ≡ p)
    at true rest there =
        elim there [
          | inl same ↦ (0, omega arith, refl, same)
          | inr later ↦ (let r = rest later in (suc r.0, omega (arith, r.1), r.2, r.3))
        ]
    at false rest there = (let r = rest there in (suc r.0, omega (arith, r.1), r.2, r.3))

accepted_at : (ts : List Transaction) (flags : List Bool) (n : ℕ) → n < length ts → slice_index_or flags n false ≡ true
    → IsIn (accepted_in ts flags) (payment_of (slice_index_or ts n (of_parts [] [])))
accepted_at [] flags n lt e = absurd (omega (arith, lt))
accepted_at (t ∷ ts) [] n lt e = absurd (false≢true e)
accepted_at (t ∷ ts) (b ∷ bs) zero lt e = subst (λ (c : Bool). IsIn (cond c (payment_of t ∷ accepted_in ts bs) (accepted_in ts bs)) (payment_of t)) (sym e) (inl refl)
accepted_at (t ∷ ts) (b ∷ bs) (suc n) lt e = at b (accepted_at ts bs n (omega (arith, lt)) e)
  where
    at : (c : Bool) → IsIn (accepted_in ts bs) (payment_of (slice_index_or ts n (of_parts [] [])))
        → IsIn (cond c (payment_of t ∷ accepted_in ts bs) (accepted_in ts bs)) (payment_of (slice_index_or ts n (of_parts [] [])))
    at true there = inr there
    at false there = there

accepted_distinct : (ts : List Transaction) (flags : List Bool) → AreDistinct (map id_of ts) → AreDistinct (map id_in (accepted_in ts flags))
accepted_distinct [] flags h = tt
accepted_distinct (t ∷ ts) [] h = tt
accepted_distinct (t ∷ ts) (b ∷ bs) h = at b (accepted_distinct ts bs h.1)
  where
    fresh : has (map id_in (accepted_in ts bs)) (id_of t) ≡ true → ⊥
    fresh there =
        let i : (i : ℕ) × IsIn (map id_in (accepted_in ts bs)) i × (eqb i (id_of t) ≡ true) = member_of_any (λ i. eqb i (id_of t)) (map id_in (accepted_in ts bs)) there in
        let p : (p : Payment) × IsIn (accepted_in ts bs) p × (id_in p ≡ i.0) = in_map id_in (accepted_in ts bs) i.0 i.1 in
        let r = in_accepted ts bs p.0 p.1 in
        let id : id_of (slice_index_or ts r.0 (of_parts [] [])) ≡ id_of t = ap id_in r.3 ∙ p.2 ∙ eqb-true i.0 (id_of t) i.2 in
        false≢true (sym h.0 ∙ any_of_member (λ i. eqb i (id_of t)) (map id_of ts) (id_of (slice_index_or ts r.0 (of_parts [] [])))
        (in_map_from id_of ts (slice_index_or ts r.0 (of_parts [] [])) (list_in ts r.0 (of_parts [] []) r.1)) (eq-eqb (id_of (slice_index_or ts r.0 (of_parts [] []))) (id_of t) id))

    at : (c : Bool) → AreDistinct (map id_in (accepted_in ts bs)) → AreDistinct (map id_in (cond c (payment_of t ∷ accepted_in ts bs) (accepted_in ts bs)))
    at true rest = (false_from_ne_true (has (map id_in (accepted_in ts bs)) (id_of t)) fresh, rest)
    at false rest = rest

-- ---- the locks of payments

abbrev own_locks : Payment → List ℕ
own_locks p = map (λ (o : Output). o.lock) p.outputs

coins_locks : (id index : ℕ) (os : List Output) → map (λ (c : Coin). c.lock) (coins_from id index os) ≡ map (λ (o : Output). o.lock) os
coins_locks id index [] = refl
coins_locks id index (o ∷ os) = ap (λ (l : List ℕ). o.lock ∷ l) (coins_locks id (suc index) os)

all_locks : (ps : List Payment) → map (λ (c : Coin). c.lock) (flat_map coins ps) ≡ flat_map own_locks ps
all_locks [] = refl
all_locks (p ∷ ps) =
    map-append (λ (c : Coin). c.lock) (coins p) (flat_map coins ps)
    ∙ ap (λ (l : List ℕ). l ++ map (λ (c : Coin). c.lock) (flat_map coins ps)) (coins_locks p.id 0 p.outputs)
    ∙ ap (λ (l : List ℕ). own_locks p ++ l) (all_locks ps)

-- ---- balances and locks by numbers

module _ {bits genesis : ℕ} {kept : List ReadBlock} {blocks : Numbered} {votes : Tallied} {k : Carried} {a : Acceptance} (e : IsEngine bits kept genesis blocks votes) (h : IsAccepting kept blocks k a) where
  abbrev flat : List Transaction
  flat = flat_map (λ b. b) (map (txs_of kept) blocks.ids)

  flat_is : flat ≡ txs_in kept (order_of kept)
  flat_is = flat_map-map (λ (b : List Transaction). b) (txs_of kept) blocks.ids ∙ ap (txs_in kept) e.order

  -- what a present block carries by ids has a number
  number_carried : (p : Payment) → IsIn (carried (ledger_by_id blocks.profile kept) (present kept)) p → (n : ℕ) × (n < length k.txs) × (payment_of (tx_at k n) ≡ p)
  number_carried p there =
      let z : (z : ℕ) × IsIn (present kept) z × IsIn ((ledger_by_id blocks.profile kept).txs z) p = in_flat_map (ledger_by_id blocks.profile kept).txs (present kept) p there in
      let w = contains_from_in blocks.ids z.0 (in_from_has blocks.ids z.0 (e.same z.0 ∙ has_in (present kept) z.0 z.1)) in
      let within : w.0 < length (map (txs_of kept) blocks.ids) = omega (arith, w.1, length-map blocks.ids (txs_of kept)) in
      let theirs : payments_in k w.0 ≡ (ledger_by_id blocks.profile kept).txs z.0 =
      h.carriers.theirs.theirs w.0 within
      ∙ ap (map (λ (t : Transaction). payment_of (first_like flat t))) (mapped_at (txs_of kept) blocks.ids w.0 [] z.0 w.1 ∙ ap (txs_of kept) w.2)
      ∙ ap (λ (all : List Transaction). map (λ (t : Transaction). payment_of (first_like all t)) (txs_of kept z.0)) flat_is in
      let row : (r : Carrier) × IsIn (filter (λ (r : Carrier). eqb r.block w.0) k.rows) r × (payment_of (tx_at k r.tx) ≡ p) =
      in_map (λ (r : Carrier). payment_of (tx_at k r.tx)) (filter (λ (r : Carrier). eqb r.block w.0) k.rows) p (subst (λ (l : List Payment). IsIn l p) (sym theirs) z.2) in (
        row.0.tx,
        member_meets (λ (r : Carrier). r.tx < length k.txs) k.rows row.0 h.carriers.carried.linked.txs (in_filter (λ (r : Carrier). eqb r.block w.0) k.rows row.0 row.1).0,
        row.2,
      )

  tx_in : (n : ℕ) → n < length k.txs → IsIn k.txs (tx_at k n)
  tx_in n lt = list_in k.txs n (of_parts [] []) lt

  -- a number's payment is the one that is carried under its id
  pub one_payment : (n : ℕ) (u : Payment) → n < length k.txs → IsIn (carried (ledger_by_id blocks.profile kept) (present kept)) u → u.id ≡ id_of (tx_at k n) → u ≡ payment_of (tx_at k n)
  one_payment n u lt there same =
      let m : (m : ℕ) × (m < length k.txs) × (payment_of (tx_at k m) ≡ u) = number_carried u there in
      sym m.2 ∙ ap payment_of (one_tx k.txs (tx_at k m.0) (tx_at k n) h.carriers.carried.linked.ids (tx_in m.0 m.1) (tx_in n lt) (ap id_in m.2 ∙ same))

  -- payments that are those of numbers whose flag is set are accepted
  numbered_into : (xs : List Payment) → ((p : Payment) → IsIn xs p → (n : ℕ) × (n < length k.txs) × (is_set a.txs n ≡ true) × (payment_of (tx_at k n) ≡ p))
      → (p : Payment) → IsIn xs p → IsIn (accepted_txs (ledger_by_id blocks.profile kept) (present kept)) p
  numbered_into xs numbered p there =
      let n : (n : ℕ) × (n < length k.txs) × (is_set a.txs n ≡ true) × (payment_of (tx_at k n) ≡ p) = numbered p there in
      subst (λ (q : Payment). IsIn (accepted_txs (ledger_by_id blocks.profile kept) (present kept)) q) n.3
      (is_among_accepted (ledger_by_id blocks.profile kept) (present kept) (payment_of (tx_at k n.0)) (sym (accepted_is e h n.0 n.1) ∙ n.2)
      (λ u u_in same. one_payment n.0 u n.1 u_in same))

  -- and each accepted one is among them, where they are all of those
  numbered_back : (xs : List Payment) → ((n : ℕ) → n < length k.txs → is_set a.txs n ≡ true → IsIn xs (payment_of (tx_at k n)))
      → (p : Payment) → IsIn (accepted_txs (ledger_by_id blocks.profile kept) (present kept)) p → IsIn xs p
  numbered_back xs onto p there =
      let n : (n : ℕ) × (n < length k.txs) × (payment_of (tx_at k n) ≡ p) = number_carried p (carried_accepted (ledger_by_id blocks.profile kept) (present kept) p there) in
      let accepted : is_set a.txs n.0 ≡ true =
      accepted_is e h n.0 n.1 ∙ ap (is_accepted (ledger_by_id blocks.profile kept) (present kept)) (ap id_in n.2) ∙ id_accepted (ledger_by_id blocks.profile kept) (present kept) p there in
      subst (λ (q : Payment). IsIn xs q) n.2 (onto n.0 n.1 accepted)

  -- the payments of the numbers whose flag is set, in order, are the accepted ones, each of them once
  pub accepted_once : (flags : List Bool) → Pairwise (λ (t u : Payment). eqb t.id u.id ≡ false) (accepted_in k.txs flags)
  accepted_once flags = ids_apart (accepted_in k.txs flags) (accepted_distinct k.txs flags h.carriers.carried.linked.ids)

  pub accepted_into : (flags : List Bool) → ((n : ℕ) → n < length k.txs → slice_index_or flags n false ≡ is_set a.txs n)
      → (p : Payment) → IsIn (accepted_in k.txs flags) p → IsIn (accepted_txs (ledger_by_id blocks.profile kept) (present kept)) p
  accepted_into flags same =
      numbered_into (accepted_in k.txs flags) (λ p there. (let r = in_accepted k.txs flags p there in (r.0, r.1, sym (same r.0 r.1) ∙ r.2, r.3)))

  pub accepted_back : (flags : List Bool) → ((n : ℕ) → n < length k.txs → slice_index_or flags n false ≡ is_set a.txs n)
      → (p : Payment) → IsIn (accepted_txs (ledger_by_id blocks.profile kept) (present kept)) p → IsIn (accepted_in k.txs flags) p
  accepted_back flags same = numbered_back (accepted_in k.txs flags) (λ n lt flag. accepted_at k.txs flags n lt (same n lt ∙ flag))

  pub accepted_balance : (flags : List Bool) (lock : ℕ) → ((n : ℕ) → n < length k.txs → slice_index_or flags n false ≡ is_set a.txs n)
      → balance_of (accepted_in k.txs flags) lock ≡ balance (ledger_by_id blocks.profile kept) (present kept) lock
  accepted_balance flags lock same =
      balance_same (accepted_in k.txs flags) (accepted_txs (ledger_by_id blocks.profile kept) (present kept)) lock (accepted_once flags)
      (firsts_ids (accepted_carriers (ledger_by_id blocks.profile kept) (present kept))) (accepted_into flags same) (accepted_back flags same)

  pub accepted_balance_by_id : (flags : List Bool) (lock : ℕ) → ((n : ℕ) → n < length k.txs → slice_index_or flags n false ≡ is_set a.txs n)
      → balance_of (accepted_in k.txs flags) lock ≡ balance_by_id blocks.profile kept lock
  unfolding balance_by_id
  accepted_balance_by_id flags lock same = accepted_balance flags lock same

  ids_are : map id_of k.txs ≡ each_once (map id_of (txs_in kept (order_of kept)))
  ids_are =
      h.carriers.ids ∙ ap (λ (l : List ℕ). each_once (tx_ids_in kept l)) e.order
      ∙ ap each_once (flat_of_maps id_of (txs_of kept) (order_of kept))

  own_named : map (named k.txs) (map id_of k.txs) ≡ map payment_of k.txs
  own_named =
      likes_named k.txs k.txs (λ t there. there)
      ∙ map_on (λ t. payment_of (first_like k.txs t)) payment_of k.txs
      (λ t there. (let found = found_in k.txs t there in ap payment_of (one_tx k.txs (first_like k.txs t) t h.carriers.carried.linked.ids found.0 there found.1)))

  same_named : (ids : List ℕ) → map (named (txs_in kept (order_of kept))) ids ≡ map (named k.txs) ids
  same_named ids = ap (λ (all : List Transaction). map (named all) ids) (sym flat_is) ∙ named_same flat k.txs ids (λ id. sym (h.carriers.theirs.found id))

  carried_named : carried (ledger_by_id blocks.profile kept) (order_of kept) ≡ map (named (txs_in kept (order_of kept))) (map id_of (txs_in kept (order_of kept)))
  carried_named =
      flat_of_maps (λ t. payment_of (first_like (txs_in kept (order_of kept)) t)) (txs_of kept) (order_of kept)
      ∙ sym (likes_named (txs_in kept (order_of kept)) (txs_in kept (order_of kept)) (λ t there. there))

  -- the locks of the first of an id
  abbrev locks_named : ℕ → List ℕ
  locks_named id = own_locks (named (txs_in kept (order_of kept)) id)

  locks_by_id : locks kept ≡ each_once (flat_map locks_named (map id_of (txs_in kept (order_of kept))))
  locks_by_id =
      ap each_once (all_locks (carried (ledger_by_id blocks.profile kept) (order_of kept)) ∙ ap (flat_map own_locks) carried_named
      ∙ flat_map-map own_locks (named (txs_in kept (order_of kept))) (map id_of (txs_in kept (order_of kept))))

  locks_by_number : locks_of k.txs ≡ each_once (flat_map locks_named (map id_of k.txs))
  locks_by_number =
      ap each_once (sym (flat_map-map own_locks payment_of k.txs) ∙ ap (flat_map own_locks) (sym own_named ∙ sym (same_named (map id_of k.txs)))
      ∙ flat_map-map own_locks (named (txs_in kept (order_of kept))) (map id_of k.txs))

  pub locks_are : locks_of k.txs ≡ locks kept
  locks_are =
      locks_by_number ∙ ap (λ (ids : List ℕ). each_once (flat_map locks_named ids)) ids_are
      ∙ once_of_once locks_named (map id_of (txs_in kept (order_of kept))) ∙ sym locks_by_id
