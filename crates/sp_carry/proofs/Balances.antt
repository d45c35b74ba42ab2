-- The same transactions in another order leave the same balances.
use Rattle.std.proofs.Common.{◌≡◌, ℕ, suc, ◌≤◌, Bool, true, false, not, ◌==◌, List, [], ◌∷◌, refl, sym, ap, ◌∙◌, inl, inr, eqb, arith}
use Rattle.std.specs.Prelude.{filter, flat_map}
use Rattle.std.proofs.lemmas.Bool.{false≢true, eqb-false, false_from_ne_true}
use Rattle.sp_carry.specs.Payment.{Payment, is_same_outpoint, spends}
use Rattle.sp_tx.specs.declared.parts.Output.{Output}
use Rattle.sp_carry.specs.Money.{Coin, coins_from, coins, is_spent, unspent, balance_of}
use Rattle.sp_carry.proofs.Members.{IsIn, member_of_any, any_of_member, in_flat_map, in_flat_map_from, in_filter, in_filter_from}
use Rattle.sp_carry.proofs.Sums.{sums, sum_by_is, Pairwise, pairwise-filter, pairwise-flat_map, sums_of_partners}
use Rattle.sp_carry.proofs.Coins.{amount_of, same_outpoint, same_outpoint_from, pairwise_as}

abbrev Apart : Coin → Coin → Type 0
Apart c d = is_same_outpoint c.name d.name ≡ false

coin_named : (id k : ℕ) (os : List Output) (c : Coin) → IsIn (coins_from id k os) c → (c.name.tx ≡ id) × (k ≤ c.name.index)
coin_named id k [] c h = absurd h
coin_named id k (o ∷ os) c h =
    elim h [
      | inl same ↦ (sym (ap (λ (c : Coin). c.name.tx) same), (let e : k ≡ c.name.index = ap (λ (c : Coin). c.name.index) same in omega arith))
      | inr there ↦ (let r : (c.name.tx ≡ id) × (suc k ≤ c.name.index) = coin_named id (suc k) os c there in (r.0, omega (arith, r.1)))
    ]

coins_apart : (id k : ℕ) (os : List Output) → Pairwise Apart (coins_from id k os)
coins_apart id k [] = tt
coins_apart id k (o ∷ os) = (
  λ d there. false_from_ne_true (is_same_outpoint (record { tx = id; index = k }) d.name)
      (λ h. let e : (id ≡ d.name.tx) × (k ≡ d.name.index) = same_outpoint (record { tx = id; index = k }) d.name h in
      let n : (d.name.tx ≡ id) × (suc k ≤ d.name.index) = coin_named id (suc k) os d there in
      let low : suc k ≤ d.name.index = n.1 in let at : k ≡ d.name.index = e.1 in omega arith),
  coins_apart id (suc k) os,
)

abbrev Ids : Payment → Payment → Type 0
Ids t u = eqb t.id u.id ≡ false

all_apart : (txs : List Payment) → Pairwise Ids txs → Pairwise Apart (flat_map coins txs)
all_apart txs ids =
    pairwise-flat_map Apart coins txs (λ t _. coins_apart t.id 0 t.outputs)
    (pairwise_as Ids _ txs
    (λ t u ne c d in_c in_d. false_from_ne_true (is_same_outpoint c.name d.name)
    (λ h. eqb-false t.id u.id ne
    (sym (coin_named t.id 0 t.outputs c in_c).0 ∙ (same_outpoint c.name d.name h).0 ∙ (coin_named u.id 0 u.outputs d in_d).0)))
    ids)

spent_same : (xs ys : List Payment) (c : Coin) → ((t : Payment) → IsIn xs t → IsIn ys t) → is_spent xs c ≡ true → is_spent ys c ≡ true
spent_same xs ys c into h =
    let r : (t : Payment) × IsIn xs t × (spends t c.name ≡ true) = member_of_any (λ t. spends t c.name) xs h in
    any_of_member (λ t. spends t c.name) ys r.0 (into r.0 r.1) r.2

abbrev left_of : List Payment → ℕ → List Coin
left_of txs lock = filter (λ (c : Coin). c.lock == lock) (unspent txs)

left_le : (xs ys : List Payment) (lock : ℕ) → Pairwise Ids xs → ((t : Payment) → IsIn xs t → IsIn ys t) → ((t : Payment) → IsIn ys t → IsIn xs t)
    → sums amount_of (left_of xs lock) ≤ sums amount_of (left_of ys lock)
left_le xs ys lock ids into back =
    sums_of_partners amount_of amount_of (λ c d. is_same_outpoint c.name d.name) (left_of xs lock) (left_of ys lock)
    (pairwise_as Apart _ (left_of xs lock)
    (λ c d ne e at_c at_d.
    let a : (c.name.tx ≡ e.name.tx) × (c.name.index ≡ e.name.index) = same_outpoint c.name e.name at_c in
    let b : (d.name.tx ≡ e.name.tx) × (d.name.index ≡ e.name.index) = same_outpoint d.name e.name at_d in
    false≢true (sym ne ∙ same_outpoint_from c.name d.name (a.0 ∙ sym b.0) (a.1 ∙ sym b.1)))
    (pairwise-filter Apart (λ (c : Coin). c.lock == lock) (unspent xs)
    (pairwise-filter Apart (λ c. not (is_spent xs c)) (flat_map coins xs) (all_apart xs ids))))
    (λ c there. partner c (in_filter (λ (c : Coin). c.lock == lock) (unspent xs) c there))
  where
    kept : (c : Coin) → not (is_spent xs c) ≡ true → not (is_spent ys c) ≡ true
    kept c h = at (is_spent xs c) (is_spent ys c) (spent_same ys xs c back) h
      where
        at : (a b : Bool) → (b ≡ true → a ≡ true) → not a ≡ true → not b ≡ true
        at a false f h = refl
        at true true f h = h
        at false true f h = absurd (false≢true (f refl))

    partner : (c : Coin) → IsIn (unspent xs) c × ((c.lock == lock) ≡ true)
        → (d : Coin) × IsIn (left_of ys lock) d × (is_same_outpoint c.name d.name ≡ true) × (c.amount ≤ d.amount)
    partner c h =
        let m : IsIn (flat_map coins xs) c × (not (is_spent xs c) ≡ true) = in_filter (λ c. not (is_spent xs c)) (flat_map coins xs) c h.0 in
        let t : (t : Payment) × IsIn xs t × IsIn (coins t) c = in_flat_map coins xs c m.0 in (
          c,
          in_filter_from (λ (c : Coin). c.lock == lock) (unspent ys) c
              (in_filter_from (λ c. not (is_spent ys c)) (flat_map coins ys) c (in_flat_map_from coins ys t.0 c (into t.0 t.1) t.2) (kept c m.1)) h.1,
          same_outpoint_from c.name c.name refl refl,
          omega arith,
        )

-- two lists of the same transactions, each id once
pub balance_same : (xs ys : List Payment) (lock : ℕ) → Pairwise Ids xs → Pairwise Ids ys
    → ((t : Payment) → IsIn xs t → IsIn ys t) → ((t : Payment) → IsIn ys t → IsIn xs t) → balance_of xs lock ≡ balance_of ys lock
balance_same xs ys lock ids ids' into back =
    let a : balance_of xs lock ≡ sums amount_of (left_of xs lock) = sum_by_is amount_of (left_of xs lock) in
    let b : balance_of ys lock ≡ sums amount_of (left_of ys lock) = sum_by_is amount_of (left_of ys lock) in
    let le : sums amount_of (left_of xs lock) ≤ sums amount_of (left_of ys lock) = left_le xs ys lock ids into back in
    let ge : sums amount_of (left_of ys lock) ≤ sums amount_of (left_of xs lock) = left_le ys xs lock ids' back into in
    omega arith
