-- Outputs by their names: no two outputs of different transactions have one name, and a name finds its output.
use Rattle.std.proofs.Common.{◌≡◌, ℕ, suc, ◌-◌, ◌≤◌, false, not, eqb, List, [], ◌∷◌, inl, inr, refl, sym, ap, ◌∙◌, arith}
use Rattle.std.specs.Prelude.{find, flat_map, slice_get, Option, Some}
use Rattle.std.proofs.lemmas.Bool.{cases_Bool, eq-eqb, eqb-false, eqb-true, false≢true, false_from_ne_true}
use Rattle.sp_tx.specs.declared.parts.Output.{Output}
use Rattle.sp_ids.specs.declared.outpoint.Outpoint.{Outpoint}
use Rattle.sp_carry.specs.Payment.{is_same_outpoint, output_at, output_in, Payment}
use Rattle.sp_carry.specs.Money.{Coin, coins, coins_from, is_spent, unspent}
use Rattle.sp_carry.proofs.Coins.{pairwise_as, same_outpoint}
use Rattle.sp_carry.proofs.Members.{in_filter, in_flat_map, IsIn}
use Rattle.sp_carry.proofs.Sums.{Pairwise, pairwise-filter, pairwise-flat_map}

abbrev pub Apart : Coin → Coin → Type 0
Apart c d = is_same_outpoint c.name d.name ≡ false

-- two payments of different ids
abbrev pub Ids : Payment → Payment → Type 0
Ids t u = eqb t.id u.id ≡ false

abbrev pub output_of : Coin → Output
output_of c = record { amount = c.amount; lock = c.lock }

coin_named : (id k : ℕ) (os : List Output) (c : Coin) → IsIn (coins_from id k os) c
    → (c.name.tx ≡ id) × (k ≤ c.name.index) × (slice_get os (c.name.index - k) ≡ Some (output_of c))
coin_named id k [] c h = absurd h
coin_named id k (o ∷ os) c h =
    elim h [
      | inl same ↦
          let at : k ≡ c.name.index = ap (λ (c : Coin). c.name.index) same in
          let none : c.name.index - k ≡ 0 = omega (arith, at) in (
            sym (ap (λ (c : Coin). c.name.tx) same),
            omega (arith, at),
            ap (slice_get (o ∷ os)) none ∙ ap (λ (c : Coin). Some (output_of c)) same,
          )
      | inr there ↦
          let r = coin_named id (suc k) os c there in
          let more : c.name.index - k ≡ suc (c.name.index - suc k) = omega (arith, r.1) in
          (r.0, omega (arith, r.1), ap (slice_get (o ∷ os)) more ∙ r.2)
    ]

coins_apart : (id k : ℕ) (os : List Output) → Pairwise Apart (coins_from id k os)
coins_apart id k [] = tt
coins_apart id k (o ∷ os) = (
  λ d there. false_from_ne_true (is_same_outpoint (record { tx = id; index = k }) d.name)
      (λ h. let e = same_outpoint (record { tx = id; index = k }) d.name h in
      let n = coin_named id (suc k) os d there in omega (arith, n.1, e.1)),
  coins_apart id (suc k) os,
)

pub all_apart : (txs : List Payment) → Pairwise Ids txs → Pairwise Apart (flat_map coins txs)
all_apart txs ids =
    pairwise-flat_map Apart coins txs (λ t _. coins_apart t.id 0 t.outputs)
    (pairwise_as Ids _ txs
    (λ t u ne c d in_c in_d. false_from_ne_true (is_same_outpoint c.name d.name)
    (λ h. eqb-false t.id u.id ne
    (sym (coin_named t.id 0 t.outputs c in_c).0 ∙ (same_outpoint c.name d.name h).0 ∙ (coin_named u.id 0 u.outputs d in_d).0)))
    ids)

pub unspent_apart : (txs : List Payment) → Pairwise Ids txs → Pairwise Apart (unspent txs)
unspent_apart txs ids = pairwise-filter Apart (λ c. not (is_spent txs c)) (flat_map coins txs) (all_apart txs ids)

-- what is unspent is an output of one of the transactions
pub in_unspent : (txs : List Payment) (c : Coin) → IsIn (unspent txs) c
    → (t : Payment) × IsIn txs t × (t.id ≡ c.name.tx) × (slice_get t.outputs c.name.index ≡ Some (output_of c))
in_unspent txs c there =
    let m = in_filter (λ c. not (is_spent txs c)) (flat_map coins txs) c there in
    let t = in_flat_map coins txs c m.0 in
    let n = coin_named t.0.id 0 t.0.outputs c t.2 in
    let at : c.name.index - 0 ≡ c.name.index = omega arith in
    (t.0, t.1, sym n.0, ap (slice_get t.0.outputs) (sym at) ∙ n.2)

-- ---- the output that a name finds

-- no two of these payments that have one id are different
abbrev pub AreOwn : List Payment → Type 0
AreOwn ps = (t u : Payment) → IsIn ps t → IsIn ps u → t.id ≡ u.id → t ≡ u

pub find_member : (ps : List Payment) (id : ℕ) (t : Payment) → IsIn ps t → t.id ≡ id
    → (u : Payment) × IsIn ps u × (u.id ≡ id) × (find (λ (p : Payment). eqb p.id id) ps ≡ Some u)
find_member [] id t there same = absurd there
find_member (p ∷ ps) id t there same =
    elim (cases_Bool (eqb p.id id)) [
      | inl e ↦ (p, inl refl, eqb-true p.id id e, rw e refl)
      | inr e ↦
          let rest : IsIn ps t = elim there [
            | inl here ↦ absurd (false≢true (sym e ∙ eq-eqb p.id id (ap (λ (q : Payment). q.id) here ∙ same)))
            | inr h ↦ h
          ] in
          let r = find_member ps id t rest same in
          (r.0, inr r.1, r.2, (let f : find (λ (q : Payment). eqb q.id id) ps ≡ Some r.0 = r.3 in rw e f))
    ]

pub found : (ps : List Payment) (t : Payment) (from : Outpoint) → AreOwn ps → IsIn ps t → t.id ≡ from.tx
    → output_at ps from ≡ slice_get t.outputs from.index
found ps t from own there same =
    let r = find_member ps from.tx t there same in
    ap (λ (o : Option Payment). output_in o from.index) r.3
    ∙ ap (λ (p : Payment). slice_get p.outputs from.index) (own r.0 t r.1 there (r.2 ∙ sym same))
