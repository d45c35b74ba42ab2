-- What the present blocks leave under a lock is bounded: few blocks carry few transactions, and the outputs of each are together small.
use Rattle.std.proofs.Common.{◌≡◌, ℕ, suc, ◌+◌, ◌*◌, ◌^◌, ◌<◌, ◌≤◌, Bool, true, false, cond, not, eqb, List, [], ◌∷◌, length, refl, sym, ap, ◌∙◌, subst, inl, inr, arith}
use Rattle.std.specs.Prelude.{filter, flat_map, sum_by}
use Rattle.std.proofs.Math.ListN.{length-map}
use Rattle.std.proofs.Math.Nat.{suc-mul}
use Rattle.sp_form.specs.Turns.{InTurn}
use Rattle.sp_tx.specs.declared.parts.Output.{Output}
use Rattle.sp_tx.specs.Format.{sum_so_far}
use Rattle.sp_tx.specs.Parts.{Transaction}
use Rattle.sp_tx.specs.Spelling.{IsOutput, IsTx}
use Rattle.sp_block.specs.Block.{IsBlock, ReadBlock}
use Rattle.sp_model.specs.declared.profile.Profile.{Profile}
use Rattle.sp_model.specs.Graph.{has}
use Rattle.sp_model.proofs.Pasts.{complete_key}
use Rattle.sp_pool.specs.Kept.{AreKept, graph_of, ids_of, present}
use Rattle.sp_pool.proofs.Parents.{keys-graph_of}
use Rattle.sp_carry.specs.Carried.{first_like}
use Rattle.sp_carry.specs.Ledger.{accepted_carriers, accepts}
use Rattle.sp_carry.specs.Money.{accepted_txs, Coin, coins, coins_from, firsts, is_spent, unspent}
use Rattle.sp_carry.specs.Payment.{Payment, payment_of}
use Rattle.sp_carry.proofs.Coins.{amount_of, paid}
use Rattle.sp_carry.proofs.Firsts.{first_or_self}
use Rattle.sp_carry.proofs.Members.{in_flat_map, in_map, IsIn, member_meets}
use Rattle.sp_carry.proofs.Sums.{sum_by_is, sums, sums-flat_map, sums_le, sums_split}
use Rattle.sp_engine.specs.Presence.{order_of}
use Rattle.sp_engine.specs.Transactions.{balance_by_id, ledger_by_id, txs_in, txs_of}
use Rattle.sp_engine.proofs.CarriedBlocks.{few_txs}
use Rattle.sp_engine.proofs.Counts.{AreDistinct-present, distinct_within}
use Rattle.sp_engine.proofs.Twins.{block_of_txs, kept_txs}

-- ---- sums

sums_filter : {A : Type 0} (f : A → ℕ) (p : A → Bool) (xs : List A) → sums f (filter p xs) ≤ sums f xs
sums_filter f p [] = omega arith
sums_filter f p (x ∷ xs) = at (p x) (sums_filter f p xs)
  where
    at : (c : Bool) → sums f (filter p xs) ≤ sums f xs → sums f (cond c (x ∷ filter p xs) (filter p xs)) ≤ f x + sums f xs
    at true rest = omega arith
    at false rest = omega arith

sums_bounded : {A : Type 0} (f : A → ℕ) (most : ℕ) (xs : List A) → ((x : A) → IsIn xs x → f x ≤ most) → sums f xs ≤ length xs * most
sums_bounded f most [] h = omega arith
sums_bounded f most (x ∷ xs) h =
    let here : f x ≤ most = h x (inl refl) in
    let rest : sums f xs ≤ length xs * most = sums_bounded f most xs (λ y there. h y (inr there)) in
    omega (arith, here, rest, suc-mul (length xs) most)

sums_firsts : (f : Payment → ℕ) (ts : List Payment) → sums f (firsts ts) ≤ sums f ts
sums_firsts f [] = omega arith
sums_firsts f (t ∷ ts) =
    let fewer : sums f (filter (λ (u : Payment). not (eqb u.id t.id)) (firsts ts)) ≤ sums f (firsts ts) = sums_filter f (λ (u : Payment). not (eqb u.id t.id)) (firsts ts) in
    let rest : sums f (firsts ts) ≤ sums f ts = sums_firsts f ts in
    omega (arith, fewer, rest)

-- ---- one transaction

outputs_sum : (before : ℕ) (os : List Output) → before < 2 ^ 63 → InTurn IsOutput sum_so_far before os → before + sums (λ (o : Output). o.amount) os < 2 ^ 63
outputs_sum before [] small turn = omega (arith, small)
outputs_sum before (o ∷ os) small turn =
    let rest : (before + o.amount) + sums (λ (o : Output). o.amount) os < 2 ^ 63 = outputs_sum (before + o.amount) os turn.0.sum turn.1 in
    omega (arith, rest)

paid_small : (t : Transaction) → IsTx t → paid (payment_of t) ≤ 2 ^ 63
paid_small t is = (let less : 0 + sums (λ (o : Output). o.amount) t.outputs < 2 ^ 63 = outputs_sum 0 t.outputs (omega arith) is.outputs in omega (arith, less))

coins_worth : (id index : ℕ) (os : List Output) → sums amount_of (coins_from id index os) ≡ sums (λ (o : Output). o.amount) os
coins_worth id index [] = refl
coins_worth id index (o ∷ os) = ap (λ (n : ℕ). o.amount + n) (coins_worth id (suc index) os)

-- what is left under a lock is at most what all outputs are worth
left_at_most : (txs : List Payment) (lock : ℕ) → sums amount_of (filter (λ (c : Coin). eqb c.lock lock) (unspent txs)) ≤ sums paid txs
left_at_most txs lock =
    let part : sums amount_of (filter (λ (c : Coin). eqb c.lock lock) (unspent txs)) ≤ sums amount_of (unspent txs) = sums_filter amount_of (λ (c : Coin). eqb c.lock lock) (unspent txs) in
    let all : sums amount_of (filter (is_spent txs) (flat_map coins txs)) + sums amount_of (unspent txs) ≡ sums amount_of (flat_map coins txs) = sums_split amount_of (is_spent txs) (flat_map coins txs) in
    let each : sums amount_of (flat_map coins txs) ≡ sums (λ t. sums amount_of (coins t)) txs = sums-flat_map amount_of coins txs in
    let outputs : sums (λ t. sums amount_of (coins t)) txs ≤ sums paid txs = sums_le (λ t. sums amount_of (coins t)) paid txs (λ t there. equal (coins_worth t.id 0 t.outputs)) in
    omega (arith, part, all, each, outputs)
  where
    equal : {a b : ℕ} → a ≡ b → a ≤ b
    equal {a} {b} e = omega (arith, e)

-- ---- all of them

module _ (profile : Profile) (kept : List ReadBlock) (h : AreKept kept) where
  -- the first transaction of an id is one of a kept block too
  stood_for : (z : ℕ) (t : Transaction) → IsIn (txs_of kept z) t → IsTx (first_like (txs_in kept (order_of kept)) t)
  stood_for z t there =
      elim (first_or_self (txs_in kept (order_of kept)) t) [
        | inl self ↦ subst (λ (u : Transaction). IsTx u) (sym self) (kept_txs kept z t h there)
        | inr first ↦ (let w : (w : ℕ) × IsIn (order_of kept) w × IsIn (txs_of kept w) (first_like (txs_in kept (order_of kept)) t) =
            in_flat_map (txs_of kept) (order_of kept) (first_like (txs_in kept (order_of kept)) t) first.0 in
            kept_txs kept w.0 (first_like (txs_in kept (order_of kept)) t) h w.2)
      ]

  few_in_block : (z : ℕ) → length (txs_of kept z) ≤ 256
  few_in_block z =
      elim (block_of_txs kept z) [
        | inl none ↦ (let e : length (txs_of kept z) ≡ 0 = ap length none in omega (arith, e))
        | inr r ↦ (let e : length (txs_of kept z) ≡ length r.0.txs = ap length r.2 in
            let few : length r.0.txs ≤ 256 = few_txs r.0 (member_meets IsBlock kept r.0 h.are_blocks r.1) in omega (arith, e, few))
      ]

  few_present : length (present kept) ≤ 512
  few_present =
      let within : length (present kept) ≤ length (ids_of kept) =
      distinct_within (present kept) (ids_of kept) (AreDistinct-present kept h.apart)
      (λ z there. ap (λ (ks : List ℕ). has ks z) (sym (keys-graph_of kept)) ∙ complete_key (graph_of kept) z there) in
      omega (arith, within, length-map kept (λ (b : ReadBlock). b.id), h.few)

  paid_by : (t : Payment) (z : ℕ) → IsIn ((ledger_by_id profile kept).txs z) t → paid t ≤ 2 ^ 63
  paid_by t z there =
      let s : (s : Transaction) × IsIn (txs_of kept z) s × (payment_of (first_like (txs_in kept (order_of kept)) s) ≡ t) =
      in_map (λ s. payment_of (first_like (txs_in kept (order_of kept)) s)) (txs_of kept z) t there in
      subst (λ (p : Payment). paid p ≤ 2 ^ 63) s.2 (paid_small (first_like (txs_in kept (order_of kept)) s.0) (stood_for z s.0 s.1))

  block_small : (z : ℕ) → sums paid ((ledger_by_id profile kept).txs z) ≤ 2 ^ 71
  block_small z =
      let all : sums paid ((ledger_by_id profile kept).txs z) ≤ length ((ledger_by_id profile kept).txs z) * 2 ^ 63 =
      sums_bounded paid (2 ^ 63) ((ledger_by_id profile kept).txs z) (λ t there. paid_by t z there) in
      omega (arith, all, few_in_block z, length-map (txs_of kept z) (λ s. payment_of (first_like (txs_in kept (order_of kept)) s)))

  accepted_small : sums paid (accepted_carriers (ledger_by_id profile kept) (present kept)) ≤ 2 ^ 80
  accepted_small =
      let each : sums paid (accepted_carriers (ledger_by_id profile kept) (present kept))
      ≡ sums (λ z. sums paid (filter (λ t. accepts (ledger_by_id profile kept) (present kept) z t) ((ledger_by_id profile kept).txs z))) (present kept) =
      sums-flat_map paid (λ z. filter (λ t. accepts (ledger_by_id profile kept) (present kept) z t) ((ledger_by_id profile kept).txs z)) (present kept) in
      let all : sums (λ z. sums paid (filter (λ t. accepts (ledger_by_id profile kept) (present kept) z t) ((ledger_by_id profile kept).txs z))) (present kept) ≤ length (present kept) * 2 ^ 71 =
      sums_bounded (λ z. sums paid (filter (λ t. accepts (ledger_by_id profile kept) (present kept) z t) ((ledger_by_id profile kept).txs z))) (2 ^ 71) (present kept)
      (λ z there. let fewer : sums paid (filter (λ t. accepts (ledger_by_id profile kept) (present kept) z t) ((ledger_by_id profile kept).txs z)) ≤ sums paid ((ledger_by_id profile kept).txs z) =
      sums_filter paid (λ t. accepts (ledger_by_id profile kept) (present kept) z t) ((ledger_by_id profile kept).txs z) in omega (arith, fewer, block_small z)) in
      omega (arith, each, all, few_present)

  pub small_balance : (lock : ℕ) → balance_by_id profile kept lock < 2 ^ 81
  unfolding balance_by_id
  small_balance lock =
      let txs : List Payment = accepted_txs (ledger_by_id profile kept) (present kept) in
      let is : sum_by amount_of (filter (λ (c : Coin). eqb c.lock lock) (unspent txs)) ≡ sums amount_of (filter (λ (c : Coin). eqb c.lock lock) (unspent txs)) =
      sum_by_is amount_of (filter (λ (c : Coin). eqb c.lock lock) (unspent txs)) in
      let most : sums amount_of (filter (λ (c : Coin). eqb c.lock lock) (unspent txs)) ≤ sums paid txs = left_at_most txs lock in
      let once : sums paid txs ≤ sums paid (accepted_carriers (ledger_by_id profile kept) (present kept)) = sums_firsts paid (accepted_carriers (ledger_by_id profile kept) (present kept)) in
      omega (arith, is, most, once, accepted_small)
