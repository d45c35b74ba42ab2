-- The same payments in any order leave the same balance, and an id that is accepted is that of one accepted payment.
use Rattle.std.proofs.Common.{◌≡◌, ℕ, true, false, List, [], ◌∷◌, map, refl, sym, subst, ◌∙◌, eqb}
use Rattle.std.proofs.lemmas.Bool.{eqb-true, eq-eqb, false≢true, ne_eqb}
use Rattle.sp_model.specs.Graph.{AreDistinct}
use Rattle.sp_carry.specs.Payment.{Payment}
use Rattle.sp_carry.specs.Ledger.{accepted_carriers, carried, is_accepted, Ledger}
use Rattle.sp_carry.specs.Money.{accepted_txs, balance_of}
use Rattle.sp_carry.proofs.Balances.{balance_same}
use Rattle.sp_carry.proofs.Conflicts.{accepted_from}
use Rattle.sp_carry.proofs.Grants.{carried_in, firsts_has, firsts_in}
use Rattle.sp_carry.proofs.Members.{any_of_member, in_map_from, IsIn, member_of_any}
use Rattle.sp_carry.proofs.Sums.{Pairwise}

abbrev pub id_in : Payment → ℕ
id_in p = p.id

pub ids_apart : (xs : List Payment) → AreDistinct (map id_in xs) → Pairwise (λ (t u : Payment). eqb t.id u.id ≡ false) xs
ids_apart [] h = tt
ids_apart (t ∷ ts) h = (
  λ u there. ne_eqb t.id u.id (λ e. false≢true (sym h.0 ∙ any_of_member (λ i. eqb i t.id) (map id_in ts) u.id (in_map_from id_in ts u there) (eq-eqb u.id t.id (sym e)))),
  ids_apart ts h.1,
)

pub same_balances : (xs ys : List Payment) (lock : ℕ) → AreDistinct (map id_in xs) → AreDistinct (map id_in ys)
    → ((t : Payment) → IsIn xs t → IsIn ys t) → ((t : Payment) → IsIn ys t → IsIn xs t) → balance_of xs lock ≡ balance_of ys lock
same_balances xs ys lock once other_once into back = balance_same xs ys lock (ids_apart xs once) (ids_apart ys other_once) into back

-- ---- accepted payments

module _ (l : Ledger) (set : List ℕ) (p : Payment) where
  pub carried_accepted : IsIn (accepted_txs l set) p → IsIn (carried l set) p
  carried_accepted there =
      let a = accepted_from l set p (firsts_in (accepted_carriers l set) p there) in
      carried_in l set a.0 p a.1 a.2

  pub id_accepted : IsIn (accepted_txs l set) p → is_accepted l set p.id ≡ true
  id_accepted there =
      any_of_member (λ (t : Payment). eqb t.id p.id) (accepted_carriers l set) p (firsts_in (accepted_carriers l set) p there) (eq-eqb p.id p.id refl)

  -- a payment whose id is accepted is accepted, where no other one that is carried has that id
  pub is_among_accepted : is_accepted l set p.id ≡ true → ((u : Payment) → IsIn (carried l set) u → u.id ≡ p.id → u ≡ p) → IsIn (accepted_txs l set) p
  is_among_accepted accepted one =
      let u : (u : Payment) × IsIn (accepted_carriers l set) u × (eqb u.id p.id ≡ true) =
      member_of_any (λ (t : Payment). eqb t.id p.id) (accepted_carriers l set) accepted in
      let v : (v : Payment) × IsIn (accepted_txs l set) v × (v.id ≡ u.0.id) = firsts_has (accepted_carriers l set) u.0 u.1 in
      let a = accepted_from l set v.0 (firsts_in (accepted_carriers l set) v.0 v.1) in
      let same : v.0 ≡ p = one v.0 (carried_in l set a.0 v.0 a.1 a.2) (v.2 ∙ eqb-true u.0.id p.id u.2) in
      subst (λ (q : Payment). IsIn (accepted_txs l set) q) same v.1
