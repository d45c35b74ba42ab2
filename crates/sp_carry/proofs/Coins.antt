-- What a list of transactions without conflicts leaves is no more than what it was granted.
use Rattle.std.proofs.Common.{◌≡◌, ℕ, zero, suc, ◌+◌, ◌≤◌, Bool, true, false, cond, not, List, [], ◌∷◌, refl, sym, ap, ◌∙◌, inl, inr, eqb, arith}
use Rattle.std.specs.Prelude.{filter, flat_map, slice_get, Option, Some, None}
use Rattle.std.specs.List.{list_any}
use Rattle.std.proofs.lemmas.Bool.{false≢true, false_from_ne_true, not_from_false, not-true, and_parts, and_from, eqb-true, eq-eqb, eqb-false}
use Rattle.sp_carry.specs.Payment.{Payment, Spent, is_same_outpoint, spends, conflicts, names_once}
use Rattle.sp_ids.specs.declared.outpoint.Outpoint.{Outpoint}
use Rattle.sp_tx.specs.declared.parts.Output.{Output}
use Rattle.sp_carry.specs.Money.{Coin, coins_from, coins, is_spent, unspent}
use Rattle.sp_carry.proofs.Members.{IsIn, any_of_member, in_flat_map, in_flat_map_from, in_filter, in_filter_from}
use Rattle.sp_carry.proofs.Conflicts.{conflicts_from}
use Rattle.sp_carry.proofs.Sums.{sums, sums_split, sums_le, sums-flat_map, Pairwise, pairwise-filter, pairwise-flat_map, sums_of_partners}

abbrev pub amount_of : Coin → ℕ
amount_of c = c.amount

abbrev pub paid : Payment → ℕ
paid t = sums (λ (o : Output). o.amount) t.outputs

-- whether the list has a transaction of that id
abbrev pub has_id : List Payment → Payment → Bool
has_id grants t = list_any (λ (u : Payment). eqb u.id t.id) grants

-- transactions that pay one another and the grants on, where an input is worth `value`
pub record Pays (txs grants : List Payment) (value : Spent → ℕ) : Type 0 where
  pub ids : Pairwise (λ (t u : Payment). eqb t.id u.id ≡ false) txs
  pub apart : (t u : Payment) → IsIn txs t → IsIn txs u → conflicts t u ≡ true → ⊥
  pub once : (t : Payment) → IsIn txs t → names_once t.inputs ≡ true
  pub sources : (t : Payment) (i : Spent) → IsIn txs t → IsIn t.inputs i
      → (u : Payment) × (o : Output) × IsIn txs u × (u.id ≡ i.from.tx) × (slice_get u.outputs i.from.index ≡ Some o) × (value i ≤ o.amount)
  pub granted : (t : Payment) → IsIn txs t → has_id grants t ≡ true → (u : Payment) × IsIn grants u × (eqb u.id t.id ≡ true) × (paid t ≤ paid u)
  pub covered : (t : Payment) → IsIn txs t → has_id grants t ≡ false → paid t ≤ sums value t.inputs

pub same_outpoint : (a b : Outpoint) → is_same_outpoint a b ≡ true → (a.tx ≡ b.tx) × (a.index ≡ b.index)
same_outpoint a b h =
    let p : (eqb a.tx b.tx ≡ true) × (eqb a.index b.index ≡ true) = and_parts (eqb a.tx b.tx) (eqb a.index b.index) h in
    (eqb-true a.tx b.tx p.0, eqb-true a.index b.index p.1)

pub same_outpoint_from : (a b : Outpoint) → a.tx ≡ b.tx → a.index ≡ b.index → is_same_outpoint a b ≡ true
same_outpoint_from a b e f = and_from (eqb a.tx b.tx) (eqb a.index b.index) (eq-eqb a.tx b.tx e) (eq-eqb a.index b.index f)

same_outpoint_joined : (a b c : Outpoint) → is_same_outpoint a c ≡ true → is_same_outpoint b c ≡ true → is_same_outpoint b a ≡ true
same_outpoint_joined a b c h k =
    let e : (a.tx ≡ c.tx) × (a.index ≡ c.index) = same_outpoint a c h in
    let f : (b.tx ≡ c.tx) × (b.index ≡ c.index) = same_outpoint b c k in
    same_outpoint_from b a (f.0 ∙ sym e.0) (f.1 ∙ sym e.1)

-- the coins of a transaction are its outputs
coins_from_worth : (id k : ℕ) (os : List Output) → sums amount_of (coins_from id k os) ≡ sums (λ (o : Output). o.amount) os
coins_from_worth id k [] = refl
coins_from_worth id k (o ∷ os) = ap (λ (n : ℕ). o.amount + n) (coins_from_worth id (suc k) os)

coin_of : (id k j : ℕ) (os : List Output) (o : Output) → slice_get os j ≡ Some o
    → (c : Coin) × IsIn (coins_from id k os) c × (c.name.tx ≡ id) × (c.name.index ≡ k + j) × (c.amount ≡ o.amount)
coin_of id k j [] o h = cc
coin_of id k zero (p ∷ os) o h =
    (record { name = record { tx = id; index = k }; amount = p.amount; lock = p.lock }, inl refl, refl, omega arith, ap amount_in h)
  where
    amount_in : Option Output → ℕ
    amount_in None = 0
    amount_in (Some o) = o.amount
coin_of id k (suc j) (p ∷ os) o h =
    let r : (c : Coin) × IsIn (coins_from id (suc k) os) c × (c.name.tx ≡ id) × (c.name.index ≡ suc k + j) × (c.amount ≡ o.amount) = coin_of id (suc k) j os o h in
    (r.0, inr r.1, r.2, (let e : r.0.name.index ≡ suc k + j = r.3 in omega arith), r.4)

-- no two inputs of these transactions have one outpoint
abbrev Different : Spent → Spent → Type 0
Different i j = is_same_outpoint j.from i.from ≡ false

once_pairwise : (is : List Spent) → names_once is ≡ true → Pairwise Different is
once_pairwise [] h = tt
once_pairwise (i ∷ is) h =
    let p : (not (list_any (λ (j : Spent). is_same_outpoint j.from i.from) is) ≡ true) × (names_once is ≡ true) =
    and_parts (not (list_any (λ (j : Spent). is_same_outpoint j.from i.from) is)) (names_once is) h in (
      λ j there. false_from_ne_true (is_same_outpoint j.from i.from)
          (λ same. false≢true (sym (not-true _ p.0) ∙ any_of_member (λ (j : Spent). is_same_outpoint j.from i.from) is j there same)),
      once_pairwise is p.1,
    )

across : (txs : List Payment) → ((t u : Payment) → IsIn txs t → IsIn txs u → conflicts t u ≡ true → ⊥)
    → Pairwise (λ (t u : Payment). eqb t.id u.id ≡ false) txs
    → Pairwise (λ (t u : Payment). (i j : Spent) → IsIn t.inputs i → IsIn u.inputs j → Different i j) txs
across [] apart ids = tt
across (t ∷ ts) apart ids = (
  λ u there i j in_i in_j. false_from_ne_true (is_same_outpoint j.from i.from)
      (λ same. apart t u (inl refl) (inr there) (conflicts_from t u i j (ids.0 u there) in_i in_j same)),
  across ts (λ a b in_a in_b. apart a b (inr in_a) (inr in_b)) ids.1,
)

inputs_different : (txs grants : List Payment) (value : Spent → ℕ) → Pays txs grants value → Pairwise Different (flat_map (λ (t : Payment). t.inputs) txs)
inputs_different txs grants value h =
    pairwise-flat_map Different (λ (t : Payment). t.inputs) txs (λ t there. once_pairwise t.inputs (h.once t there)) (across txs h.apart h.ids)

pub pairwise_as : {A : Type 0} (R S : A → A → Type 0) (xs : List A) → ((x y : A) → R x y → S x y) → Pairwise R xs → Pairwise S xs
pairwise_as R S [] h k = tt
pairwise_as R S (x ∷ xs) h k = (λ y there. h x y (k.0 y there), pairwise_as R S xs h k.1)

abbrev inputs_of : List Payment → List Spent
inputs_of txs = flat_map (λ (t : Payment). t.inputs) txs

-- what is spent was there
spent_worth : (txs grants : List Payment) (value : Spent → ℕ) → Pays txs grants value
    → sums value (inputs_of txs) ≤ sums amount_of (filter (is_spent txs) (flat_map coins txs))
spent_worth txs grants value h =
    sums_of_partners value amount_of (λ i c. is_same_outpoint i.from c.name) (inputs_of txs) (filter (is_spent txs) (flat_map coins txs))
    (pairwise_as Different _ (inputs_of txs)
    (λ i j apart c at_i at_j. false≢true (sym apart ∙ same_outpoint_joined i.from j.from c.name at_i at_j))
    (inputs_different txs grants value h))
    (λ i there. partner i (in_flat_map (λ (t : Payment). t.inputs) txs i there))
  where
    partner : (i : Spent) → (t : Payment) × IsIn txs t × IsIn t.inputs i
        → (c : Coin) × IsIn (filter (is_spent txs) (flat_map coins txs)) c × (is_same_outpoint i.from c.name ≡ true) × (value i ≤ c.amount)
    partner i by =
        let s : (u : Payment) × (o : Output) × IsIn txs u × (u.id ≡ i.from.tx) × (slice_get u.outputs i.from.index ≡ Some o) × (value i ≤ o.amount) =
        h.sources by.0 i by.1 by.2 in
        let c : (c : Coin) × IsIn (coins s.0) c × (c.name.tx ≡ s.0.id) × (c.name.index ≡ 0 + i.from.index) × (c.amount ≡ s.1.amount) =
        coin_of s.0.id 0 i.from.index s.0.outputs s.1 s.4 in
        let same : is_same_outpoint i.from c.0.name ≡ true =
        same_outpoint_from i.from c.0.name (sym s.3 ∙ sym c.2) (let e : c.0.name.index ≡ 0 + i.from.index = c.3 in omega arith) in
        let le : value i ≤ s.1.amount = s.5 in
        let at : c.0.amount ≡ s.1.amount = c.4 in (
          c.0,
          in_filter_from (is_spent txs) (flat_map coins txs) c.0 (in_flat_map_from coins txs s.0 c.0 s.2 c.1)
              (any_of_member (λ t. spends t c.0.name) txs by.0 by.1
              (any_of_member (λ (j : Spent). is_same_outpoint j.from c.0.name) by.0.inputs i by.2 same)),
          same,
          omega arith,
        )

granted_worth : (txs grants : List Payment) (value : Spent → ℕ) → Pays txs grants value → sums paid (filter (has_id grants) txs) ≤ sums paid grants
granted_worth txs grants value h =
    sums_of_partners paid paid (λ t u. eqb u.id t.id) (filter (has_id grants) txs) grants
    (pairwise_as (λ (t u : Payment). eqb t.id u.id ≡ false) _ (filter (has_id grants) txs)
    (λ t u apart c at_t at_u. eqb-false t.id u.id apart (sym (eqb-true c.id t.id at_t) ∙ eqb-true c.id u.id at_u))
    (pairwise-filter (λ (t u : Payment). eqb t.id u.id ≡ false) (has_id grants) txs h.ids))
    (λ t there. let r : IsIn txs t × (has_id grants t ≡ true) = in_filter (has_id grants) txs t there in h.granted t r.0 r.1)

-- all that is unspent is worth no more than the grants
pub unspent_worth : (txs grants : List Payment) (value : Spent → ℕ) → Pays txs grants value → sums amount_of (unspent txs) ≤ sums paid grants
unspent_worth txs grants value h =
    let all : sums amount_of (filter (is_spent txs) (flat_map coins txs)) + sums amount_of (unspent txs) ≡ sums amount_of (flat_map coins txs) =
    sums_split amount_of (is_spent txs) (flat_map coins txs) in
    let each : sums amount_of (flat_map coins txs) ≡ sums (λ t. sums amount_of (coins t)) txs = sums-flat_map amount_of coins txs in
    let outputs : sums (λ t. sums amount_of (coins t)) txs ≤ sums paid txs = sums_le (λ t. sums amount_of (coins t)) paid txs (λ t _. le_of (coins_from_worth t.id 0 t.outputs)) in
    let spent : sums value (inputs_of txs) ≤ sums amount_of (filter (is_spent txs) (flat_map coins txs)) = spent_worth txs grants value h in
    let split : sums paid (filter (has_id grants) txs) + sums paid (filter (λ t. not (has_id grants t)) txs) ≡ sums paid txs = sums_split paid (has_id grants) txs in
    let from_grants : sums paid (filter (has_id grants) txs) ≤ sums paid grants = granted_worth txs grants value h in
    let spent_of : Payment → ℕ = λ t. sums value t.inputs in
    let others : sums paid (filter (λ t. not (has_id grants t)) txs) ≤ sums (λ (t : Payment). sums value t.inputs) (filter (λ t. not (has_id grants t)) txs) =
    sums_le paid (λ (t : Payment). sums value t.inputs) (filter (λ t. not (has_id grants t)) txs)
    (λ t there. let r : IsIn txs t × (not (has_id grants t) ≡ true) = in_filter (λ t. not (has_id grants t)) txs t there in h.covered t r.0 (not-true (has_id grants t) r.1)) in
    let fewer : sums (λ (t : Payment). sums value t.inputs) (filter (has_id grants) txs) + sums (λ (t : Payment). sums value t.inputs) (filter (λ t. not (has_id grants t)) txs)
    ≡ sums (λ (t : Payment). sums value t.inputs) txs = sums_split (λ (t : Payment). sums value t.inputs) (has_id grants) txs in
    let joined : sums value (inputs_of txs) ≡ sums (λ (t : Payment). sums value t.inputs) txs = sums-flat_map value (λ (t : Payment). t.inputs) txs in
    omega arith
  where
    le_of : {a b : ℕ} → a ≡ b → a ≤ b
    le_of {a} {b} e = omega arith

-- the first test passes only what the second passes
filter_filter : (p q : Coin → Bool) (cs : List Coin) → ((c : Coin) → p c ≡ true → q c ≡ true) → filter p cs ≡ filter p (filter q cs)
filter_filter p q [] h = refl
filter_filter p q (c ∷ cs) h = at (p c) (q c) refl (h c) (filter_filter p q cs h)
  where
    at : (a b : Bool) → p c ≡ a → (p c ≡ true → b ≡ true) → filter p cs ≡ filter p (filter q cs)
        → cond a (c ∷ filter p cs) (filter p cs) ≡ filter p (cond b (c ∷ filter q cs) (filter q cs))
    at true true e k rest = rw e (ap (λ (xs : List Coin). c ∷ xs) rest)
    at true false e k rest = absurd (false≢true (k e))
    at false true e k rest = rw e rest
    at false false e k rest = rest

-- the balances of different locks are parts of what is unspent
pub balances_worth : (locks : List ℕ) (cs : List Coin) → Pairwise (λ (a b : ℕ). eqb a b ≡ false) locks
    → sums (λ lock. sums amount_of (filter (λ (c : Coin). eqb c.lock lock) cs)) locks ≤ sums amount_of cs
balances_worth [] cs apart = omega arith
balances_worth (k ∷ ks) cs apart =
    let part : sums amount_of (filter (λ (c : Coin). eqb c.lock k) cs) + sums amount_of (filter (λ (c : Coin). not (eqb c.lock k)) cs) ≡ sums amount_of cs =
    sums_split amount_of (λ (c : Coin). eqb c.lock k) cs in
    let rest : sums (λ lock. sums amount_of (filter (λ (c : Coin). eqb c.lock lock) (filter (λ (c : Coin). not (eqb c.lock k)) cs))) ks
    ≤ sums amount_of (filter (λ (c : Coin). not (eqb c.lock k)) cs) = balances_worth ks (filter (λ (c : Coin). not (eqb c.lock k)) cs) apart.1 in
    let same : sums (λ lock. sums amount_of (filter (λ (c : Coin). eqb c.lock lock) cs)) ks
    ≤ sums (λ lock. sums amount_of (filter (λ (c : Coin). eqb c.lock lock) (filter (λ (c : Coin). not (eqb c.lock k)) cs))) ks =
    sums_le (λ lock. sums amount_of (filter (λ (c : Coin). eqb c.lock lock) cs))
    (λ lock. sums amount_of (filter (λ (c : Coin). eqb c.lock lock) (filter (λ (c : Coin). not (eqb c.lock k)) cs))) ks (λ lock there. as_le (ap (sums amount_of) (filter_filter (λ (c : Coin). eqb c.lock lock) (λ (c : Coin). not (eqb c.lock k)) cs (other lock (apart.0 lock there))))) in
    omega arith
  where
    as_le : {a b : ℕ} → a ≡ b → a ≤ b
    as_le {a} {b} e = omega arith

    other : (lock : ℕ) → eqb k lock ≡ false → (c : Coin) → eqb c.lock lock ≡ true → not (eqb c.lock k) ≡ true
    other lock apart c same =
        not_from_false (eqb c.lock k)
        (false_from_ne_true (eqb c.lock k) (λ h. eqb-false k lock apart (sym (eqb-true c.lock k h) ∙ eqb-true c.lock lock same)))
