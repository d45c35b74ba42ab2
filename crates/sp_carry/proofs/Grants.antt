-- All balances together are at most what genesis grants.
use Rattle.std.proofs.Common.{◌≡◌, ℕ, ◌≤◌, Bool, true, false, cond, ◌&&◌, ◌||◌, not, ◌==◌, List, [], ◌∷◌, refl, sym, ap, ◌∙◌, inl, inr, eqb, arith}
use Rattle.std.specs.Prelude.{filter, sum_by, slice_get, Option, Some, None, nat_le}
use Rattle.std.specs.List.{list_any, list_all, find}
use Rattle.std.proofs.lemmas.Bool.{false≢true, true≢false, false_from_ne_true, not_from_false, not-true, and_parts, eqb-true, eq-eqb, ne_eqb, or_cases, cases_Bool, leb-true}
use Rattle.sp_model.specs.Graph.{AreDistinct, has, complete, in_past, past, parents_of, IsDownset}
use Rattle.sp_model.proofs.Pasts.{has-past, in_past_step}
use Rattle.sp_carry.specs.Payment.{Payment, Spent, output_in, output_at, amount_or_none, finds, is_opened_by, spent_amount, paid_amount}
use Rattle.sp_tx.specs.declared.parts.Output.{Output}
use Rattle.sp_carry.specs.Ledger.{Ledger, carried, is_empty, is_genesis, is_covered, some_carrier, accepts, accepted_carriers, HasNoTwins, IsPlain, NamesOnce, IsOneGenesis}
use Rattle.sp_carry.specs.Money.{Coin, firsts, unspent, accepted_txs, balance}
use Rattle.sp_carry.proofs.Members.{IsIn, contains_from_in, member_of_any, any_of_member, member_of_all, in_flat_map, in_flat_map_from, in_filter, in_filter_from}
use Rattle.sp_carry.proofs.Acceptance.{Accepts, accepts_parts, carrier_found}
use Rattle.sp_carry.proofs.Conflicts.{no_conflict, accepted_from, accepted_source, in_from_has}
use Rattle.sp_carry.proofs.Sums.{sums, sum_by_is, sums_le, Pairwise, pairwise-filter}
use Rattle.sp_carry.proofs.Coins.{Pays, paid, has_id, amount_of, unspent_worth, balances_worth}

-- ---- the first of each id

pub firsts_in : (ts : List Payment) (t : Payment) → IsIn (firsts ts) t → IsIn ts t
firsts_in [] t h = absurd h
firsts_in (x ∷ ts) t h =
    elim h [
      | inl same ↦ inl same
      | inr there ↦ inr (firsts_in ts t (in_filter (λ (u : Payment). not (eqb u.id x.id)) (firsts ts) t there).0)
    ]

pub firsts_ids : (ts : List Payment) → Pairwise (λ (t u : Payment). eqb t.id u.id ≡ false) (firsts ts)
firsts_ids [] = tt
firsts_ids (x ∷ ts) = (
  λ u there. turned u (not-true (eqb u.id x.id) (in_filter (λ (u : Payment). not (eqb u.id x.id)) (firsts ts) u there).1),
  pairwise-filter (λ (t u : Payment). eqb t.id u.id ≡ false) (λ (u : Payment). not (eqb u.id x.id)) (firsts ts) (firsts_ids ts),
)
  where
    turned : (u : Payment) → eqb u.id x.id ≡ false → eqb x.id u.id ≡ false
    turned u h = false_from_ne_true (eqb x.id u.id) (λ e. true≢false (sym (eq-eqb u.id x.id (sym (eqb-true x.id u.id e))) ∙ h))

pub firsts_has : (ts : List Payment) (t : Payment) → IsIn ts t → (u : Payment) × IsIn (firsts ts) u × (u.id ≡ t.id)
firsts_has [] t h = absurd h
firsts_has (x ∷ ts) t h =
    elim h [
      | inl same ↦ (x, inl refl, ap (λ (u : Payment). u.id) same)
      | inr there ↦ at (firsts_has ts t there)
    ]
  where
    at : (u : Payment) × IsIn (firsts ts) u × (u.id ≡ t.id) → (u : Payment) × IsIn (firsts (x ∷ ts)) u × (u.id ≡ t.id)
    at r =
        elim (cases_Bool (eqb r.0.id x.id)) [
          | inl same ↦ (x, inl refl, sym (eqb-true r.0.id x.id same) ∙ r.2)
          | inr apart ↦ (r.0, inr (in_filter_from (λ (u : Payment). not (eqb u.id x.id)) (firsts ts) r.0 r.1 (not_from_false (eqb r.0.id x.id) apart)), r.2)
        ]

-- ---- the transaction of an id

pub find_member : (p : Payment → Bool) (xs : List Payment) (v : Payment) → find p xs ≡ Some v → IsIn xs v × (p v ≡ true)
find_member p [] v h = cc
find_member p (x ∷ xs) v h = at (p x) refl (find_member p xs v) h
  where
    at : (b : Bool) → p x ≡ b → (find p xs ≡ Some v → IsIn xs v × (p v ≡ true)) → cond b (Some x) (find p xs) ≡ Some v → IsIn (x ∷ xs) v × (p v ≡ true)
    at true e rest h = let same : x ≡ v = cc in (inl same, sym (ap p same) ∙ e)
    at false e rest h = (inr (rest h).0, (rest h).1)

pub find_some : (p : Payment → Bool) (xs : List Payment) (v : Payment) → IsIn xs v → p v ≡ true → (u : Payment) × (find p xs ≡ Some u)
find_some p [] v h e = absurd h
find_some p (x ∷ xs) v h e = at (p x) refl (λ there. find_some p xs v there e) h
  where
    at : (b : Bool) → p x ≡ b → (IsIn xs v → (u : Payment) × (find p xs ≡ Some u)) → IsIn (x ∷ xs) v → (u : Payment) × (cond b (Some x) (find p xs) ≡ Some u)
    at true f rest h = (x, refl)
    at false f rest h = elim h [ inl same ↦ absurd (false≢true (sym f ∙ ap p same ∙ e)) | inr there ↦ rest there ]

-- an input that finds its output finds a transaction with that output
output_found : (txs : List Payment) (i : Spent) → finds txs i ≡ true
    → (v : Payment) × (o : Output) × (find (λ (t : Payment). t.id == i.from.tx) txs ≡ Some v) × (slice_get v.outputs i.from.index ≡ Some o)
output_found txs i h = at (find (λ (t : Payment). t.id == i.from.tx) txs) refl h
  where
    inner : (f : Option Payment) (v : Payment) → f ≡ Some v → (s : Option Output) → slice_get v.outputs i.from.index ≡ s → is_opened_by i.opens s ≡ true
        → (v : Payment) × (o : Output) × (f ≡ Some v) × (slice_get v.outputs i.from.index ≡ Some o)
    inner f v e None g h = absurd (false≢true h)
    inner f v e (Some o) g h = (v, o, e, g)

    at : (f : Option Payment) → find (λ (t : Payment). t.id == i.from.tx) txs ≡ f → is_opened_by i.opens (output_in f i.from.index) ≡ true
        → (v : Payment) × (o : Output) × (find (λ (t : Payment). t.id == i.from.tx) txs ≡ Some v) × (slice_get v.outputs i.from.index ≡ Some o)
    at None e h = absurd (false≢true h)
    at (Some v) e h = inner (find (λ (t : Payment). t.id == i.from.tx) txs) v e (slice_get v.outputs i.from.index) refl h

-- where ids are plain, an output found among some of the transactions is the one found among all
output_among : (below txs : List Payment) (i : Spent)
    → ((t u : Payment) → IsIn txs t → IsIn txs u → t.id ≡ u.id → t ≡ u) → ((t : Payment) → IsIn below t → IsIn txs t)
    → finds below i ≡ true → output_at txs i.from ≡ output_at below i.from
output_among below txs i plain within h =
    let r : (v : Payment) × (o : Output) × (find (λ (t : Payment). t.id == i.from.tx) below ≡ Some v) × (slice_get v.outputs i.from.index ≡ Some o) = output_found below i h in
    let m : IsIn below r.0 × (eqb r.0.id i.from.tx ≡ true) = find_member (λ (t : Payment). t.id == i.from.tx) below r.0 r.2 in
    let s : (u : Payment) × (find (λ (t : Payment). t.id == i.from.tx) txs ≡ Some u) = find_some (λ (t : Payment). t.id == i.from.tx) txs r.0 (within r.0 m.0) m.1 in
    let n : IsIn txs s.0 × (eqb s.0.id i.from.tx ≡ true) = find_member (λ (t : Payment). t.id == i.from.tx) txs s.0 s.1 in
    let same : s.0 ≡ r.0 = plain s.0 r.0 n.0 (within r.0 m.0) (eqb-true s.0.id i.from.tx n.1 ∙ sym (eqb-true r.0.id i.from.tx m.1)) in
    ap (λ (f : Option Payment). output_in f i.from.index) (s.1 ∙ ap (λ (t : Payment). Some t) same ∙ sym r.2)

-- ---- the accepted transactions pay the grants on

pub carried_in : (l : Ledger) (set : List ℕ) (z : ℕ) (t : Payment) → has set z ≡ true → IsIn (l.txs z) t → IsIn (carried l set) t
carried_in l set z t there h = in_flat_map_from l.txs set z t (in_from_has set z there) h

pub carried_below : (l : Ledger) (set : List ℕ) (z : ℕ) (t : Payment) → IsDownset l.graph set → has set z ≡ true → IsIn (carried l (past l.graph z)) t → IsIn (carried l set) t
carried_below l set z t down there h =
    let r : (w : ℕ) × IsIn (past l.graph z) w × IsIn (l.txs w) t = in_flat_map l.txs (past l.graph z) t h in
    carried_in l set r.0 t
    (down.closed z r.0 there (has-past l.graph z r.0 (any_of_member (λ k. eqb k r.0) (past l.graph z) r.0 r.1 (eq-eqb r.0 r.0 refl)))) r.2

-- a genesis block has no past
nothing_below : (l : Ledger) (z w : ℕ) → has (complete l.graph) z ≡ true → is_genesis l z ≡ true → in_past l.graph w z ≡ true → ⊥
nothing_below l z w whole h below = at (parents_of l.graph z) refl h
  where
    at : (ps : List ℕ) → parents_of l.graph z ≡ ps → is_empty ps ≡ true → ⊥
    at [] e h =
        let none : list_any (λ p. eqb p w || in_past l.graph w p) (parents_of l.graph z) ≡ true = sym (in_past_step l.graph w z whole) ∙ below in
        false≢true (rw e at none)
    at (p ∷ ps) e h = false≢true h

abbrev value_in : Ledger → List ℕ → Spent → ℕ
value_in l set i = amount_or_none (output_at (carried l set) i.from)

pub accepted_pays : (l : Ledger) (set : List ℕ) (genesis : ℕ) → IsDownset l.graph set → IsPlain l set → HasNoTwins l set → NamesOnce l set
    → IsOneGenesis l set genesis → Pays (accepted_txs l set) (l.txs genesis) (value_in l set)
accepted_pays l set genesis down plain twins once root =
    record {
      ids = firsts_ids (accepted_carriers l set);
      apart = λ t u in_t in_u h. false≢true (sym (no_conflict l set t u down twins (is_carrier t in_t) (is_carrier u in_u)) ∙ h);
      once = λ t in_t. once t (contains_from_in (carried l set) t (is_carried t (is_carrier t in_t)));
      sources = λ t i in_t in_i. source t i (is_carrier t in_t) in_i;
      granted = λ t in_t h. grant_of t (is_carried t (is_carrier t in_t)) h;
      covered = λ t in_t h. cover t (is_carrier t in_t) h;
    }
  where
    is_carrier : (t : Payment) → IsIn (accepted_txs l set) t → IsIn (accepted_carriers l set) t
    is_carrier t h = firsts_in (accepted_carriers l set) t h

    is_carried : (t : Payment) → IsIn (accepted_carriers l set) t → IsIn (carried l set) t
    is_carried t h =
        let a : (z : ℕ) × (has set z ≡ true) × IsIn (l.txs z) t × (accepts l set z t ≡ true) = accepted_from l set t h in
        carried_in l set a.0 t a.1 a.2

    is_one : (t u : Payment) → IsIn (carried l set) t → IsIn (carried l set) u → t.id ≡ u.id → t ≡ u
    is_one t u in_t in_u same = plain t u (contains_from_in (carried l set) t in_t) (contains_from_in (carried l set) u in_u) same

    -- an accepted carrier that isn't in genesis is covered
    covered_at : (z : ℕ) (t : Payment) → has set z ≡ true → accepts l set z t ≡ true → (is_genesis l z ≡ true → ⊥) → is_covered (carried l (past l.graph z)) t ≡ true
    covered_at z t there acc other =
        let a : Accepts l set z t = accepts_parts l set z t (down.all_complete z there) acc in
        elim (or_cases (is_genesis l z) (is_covered (carried l (past l.graph z)) t) a.sound) [ inl g ↦ absurd (other g) | inr c ↦ c ]

    finds_at : (z : ℕ) (t : Payment) (i : Spent) → is_covered (carried l (past l.graph z)) t ≡ true → IsIn t.inputs i → finds (carried l (past l.graph z)) i ≡ true
    finds_at z t i c in_i =
        member_of_all (finds (carried l (past l.graph z))) t.inputs i
        (and_parts (list_all (finds (carried l (past l.graph z))) t.inputs) (nat_le (paid_amount t) (spent_amount (carried l (past l.graph z)) t)) c).0 in_i

    among : (z : ℕ) (i : Spent) → has set z ≡ true → finds (carried l (past l.graph z)) i ≡ true
        → output_at (carried l set) i.from ≡ output_at (carried l (past l.graph z)) i.from
    among z i there h = output_among (carried l (past l.graph z)) (carried l set) i is_one (λ t in_t. carried_below l set z t down there in_t) h

    source : (t : Payment) (i : Spent) → IsIn (accepted_carriers l set) t → IsIn t.inputs i
        → (u : Payment) × (o : Output) × IsIn (accepted_txs l set) u × (u.id ≡ i.from.tx) × (slice_get u.outputs i.from.index ≡ Some o) × (value_in l set i ≤ o.amount)
    source t i in_t in_i =
        let a : (z : ℕ) × (has set z ≡ true) × IsIn (l.txs z) t × (accepts l set z t ≡ true) = accepted_from l set t in_t in
        let parts : Accepts l set a.0 t = accepts_parts l set a.0 t (down.all_complete a.0 a.1) a.3 in
        let below : (w : ℕ) × (u : Payment) × (has (past l.graph a.0) w ≡ true) × IsIn (l.txs w) u × ((eqb u.id i.from.tx && accepts l set w u) ≡ true) =
        carrier_found l (past l.graph a.0) (λ w u. (u.id == i.from.tx) && accepts l set w u)
        (member_of_all (λ (i : Spent). some_carrier l (past l.graph a.0) (λ w u. (u.id == i.from.tx) && accepts l set w u)) t.inputs i parts.sources in_i) in
        let f : finds (carried l (past l.graph a.0)) i ≡ true =
        finds_at a.0 t i (covered_at a.0 t a.1 a.3 (λ g. nothing_below l a.0 below.0 (down.all_complete a.0 a.1) g (has-past l.graph a.0 below.0 below.2))) in_i in
        let s : (u : Payment) × IsIn (accepted_carriers l set) u × (eqb u.id i.from.tx ≡ true) = accepted_source l set t i down in_t in_i in
        let u : (u : Payment) × IsIn (accepted_txs l set) u × (u.id ≡ s.0.id) = firsts_has (accepted_carriers l set) s.0 s.1 in
        let named : u.0.id ≡ i.from.tx = u.2 ∙ eqb-true s.0.id i.from.tx s.2 in
        let r : (v : Payment) × (o : Output) × (find (λ (t : Payment). t.id == i.from.tx) (carried l (past l.graph a.0)) ≡ Some v) × (slice_get v.outputs i.from.index ≡ Some o) =
        output_found (carried l (past l.graph a.0)) i f in
        let m : IsIn (carried l (past l.graph a.0)) r.0 × (eqb r.0.id i.from.tx ≡ true) = find_member (λ (t : Payment). t.id == i.from.tx) (carried l (past l.graph a.0)) r.0 r.2 in
        let same : r.0 ≡ u.0 =
        is_one r.0 u.0 (carried_below l set a.0 r.0 down a.1 m.0) (is_carried u.0 (is_carrier u.0 u.1)) (eqb-true r.0.id i.from.tx m.1 ∙ sym named) in
        let output : slice_get u.0.outputs i.from.index ≡ Some r.1 = sym (ap (λ (t : Payment). slice_get t.outputs i.from.index) same) ∙ r.3 in
        let worth : value_in l set i ≡ r.1.amount =
        ap amount_or_none (among a.0 i a.1 f ∙ ap (λ (f : Option Payment). output_in f i.from.index) r.2 ∙ r.3) in
        (u.0, r.1, u.1, named, output, omega (arith, worth))

    grant_of : (t : Payment) → IsIn (carried l set) t → has_id (l.txs genesis) t ≡ true
        → (u : Payment) × IsIn (l.txs genesis) u × (eqb u.id t.id ≡ true) × (paid t ≤ paid u)
    grant_of t in_t h =
        let r : (u : Payment) × IsIn (l.txs genesis) u × (eqb u.id t.id ≡ true) = member_of_any (λ (u : Payment). eqb u.id t.id) (l.txs genesis) h in
        let same : t ≡ r.0 = is_one t r.0 in_t (carried_in l set genesis r.0 root.there r.1) (sym (eqb-true r.0.id t.id r.2)) in
        let e : paid t ≡ paid r.0 = ap paid same in
        (r.0, r.1, r.2, omega arith)

    cover : (t : Payment) → IsIn (accepted_carriers l set) t → has_id (l.txs genesis) t ≡ false → paid t ≤ sums (value_in l set) t.inputs
    cover t in_t h =
        let a : (z : ℕ) × (has set z ≡ true) × IsIn (l.txs z) t × (accepts l set z t ≡ true) = accepted_from l set t in_t in
        let c : is_covered (carried l (past l.graph a.0)) t ≡ true =
        covered_at a.0 t a.1 a.3
        (λ g. let at : IsIn (l.txs genesis) t = (let P : ℕ → Type 0 = λ z. IsIn (l.txs z) t in rw (root.only a.0 a.1 g) at a.2) in
        false≢true (sym h ∙ any_of_member (λ (u : Payment). eqb u.id t.id) (l.txs genesis) t at (eq-eqb t.id t.id refl))) in
        let enough : paid_amount t ≤ spent_amount (carried l (past l.graph a.0)) t =
        leb-true (paid_amount t) (spent_amount (carried l (past l.graph a.0)) t)
        (and_parts (list_all (finds (carried l (past l.graph a.0))) t.inputs) (nat_le (paid_amount t) (spent_amount (carried l (past l.graph a.0)) t)) c).1 in
        let p : paid_amount t ≡ paid t = sum_by_is (λ (o : Output). o.amount) t.outputs in
        let s : spent_amount (carried l (past l.graph a.0)) t ≡ sums (λ (i : Spent). amount_or_none (output_at (carried l (past l.graph a.0)) i.from)) t.inputs =
        sum_by_is (λ (i : Spent). amount_or_none (output_at (carried l (past l.graph a.0)) i.from)) t.inputs in
        let le : sums (λ (i : Spent). amount_or_none (output_at (carried l (past l.graph a.0)) i.from)) t.inputs ≤ sums (value_in l set) t.inputs =
        sums_le (λ (i : Spent). amount_or_none (output_at (carried l (past l.graph a.0)) i.from)) (value_in l set) t.inputs
        (λ i in_i. let e : value_in l set i ≡ amount_or_none (output_at (carried l (past l.graph a.0)) i.from) =
        ap amount_or_none (among a.0 i a.1 (finds_at a.0 t i c in_i)) in omega arith) in
        omega arith

pairwise_from_distinct : (ks : List ℕ) → AreDistinct ks → Pairwise (λ (a b : ℕ). eqb a b ≡ false) ks
pairwise_from_distinct [] h = tt
pairwise_from_distinct (k ∷ ks) h = (
  λ b there. ne_eqb k b (λ e. true≢false (sym (any_of_member (λ x. eqb x k) ks b there (eq-eqb b k (sym e))) ∙ h.0)),
  pairwise_from_distinct ks h.1,
)

-- the balances of any different locks
pub balances_granted : (l : Ledger) (set : List ℕ) (genesis : ℕ) (locks : List ℕ) → IsDownset l.graph set → IsPlain l set → HasNoTwins l set → NamesOnce l set
    → IsOneGenesis l set genesis → AreDistinct locks
    → sum_by (balance l set) locks ≤ sum_by paid_amount (l.txs genesis)
balances_granted l set genesis locks down plain twins once root apart =
    let all : sums amount_of (unspent (accepted_txs l set)) ≤ sums paid (l.txs genesis) =
    unspent_worth (accepted_txs l set) (l.txs genesis) (value_in l set) (accepted_pays l set genesis down plain twins once root) in
    let parts : sums (λ lock. sums amount_of (filter (λ (c : Coin). eqb c.lock lock) (unspent (accepted_txs l set)))) locks ≤ sums amount_of (unspent (accepted_txs l set)) =
    balances_worth locks (unspent (accepted_txs l set)) (pairwise_from_distinct locks apart) in
    let left : sum_by (balance l set) locks ≡ sums (balance l set) locks = sum_by_is (balance l set) locks in
    let right : sum_by paid_amount (l.txs genesis) ≡ sums paid_amount (l.txs genesis) = sum_by_is paid_amount (l.txs genesis) in
    let below : sums (balance l set) locks ≤ sums (λ lock. sums amount_of (filter (λ (c : Coin). eqb c.lock lock) (unspent (accepted_txs l set)))) locks =
    sums_le (balance l set) (λ lock. sums amount_of (filter (λ (c : Coin). eqb c.lock lock) (unspent (accepted_txs l set)))) locks
    (λ lock _. at_most (sum_by_is amount_of (filter (λ (c : Coin). eqb c.lock lock) (unspent (accepted_txs l set))))) in
    let above : sums paid (l.txs genesis) ≤ sums paid_amount (l.txs genesis) =
    sums_le paid paid_amount (l.txs genesis) (λ t _. at_most (sym (sum_by_is (λ (o : Output). o.amount) t.outputs))) in
    omega arith
  where
    at_most : {a b : ℕ} → a ≡ b → a ≤ b
    at_most {a} {b} e = omega arith
