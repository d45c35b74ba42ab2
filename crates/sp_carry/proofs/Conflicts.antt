-- Two accepted transactions don't conflict, and what an accepted one spends is accepted.
use Rattle.std.proofs.Common.{◌≡◌, ◌≢◌, ℕ, Bool, true, false, ◌&&◌, ◌||◌, not, ◌==◌, List, refl, sym, ap, ◌∙◌, inl, inr, eqb}
use Rattle.std.specs.Prelude.{ℤ, negsuc, neg_ℤ, filter, Contains}
use Rattle.std.specs.List.{list_any}
use Rattle.std.specs.Ordering.{int_eq}
use Rattle.std.proofs.lemmas.Bool.{true≢false, and_parts, and_from, eqb-true, eq-eqb, ne_eqb, cases_eq, cases_Bool, false_from_ne_true, not_from_false, not-true}
use Rattle.std.proofs.lemmas.Bool.Decides.{Decides-int_eq}
use Rattle.sp_model.specs.Graph.{Graph, has, in_past, past, anticone, related, IsDownset}
use Rattle.sp_model.specs.Votes.{virt}
use Rattle.sp_model.proofs.Sets.{has-filter_from}
use Rattle.sp_model.proofs.Pasts.{has-past_from, has-past}
use Rattle.sp_model.proofs.Exchange.{virt_neg}
use Rattle.sp_ids.specs.declared.outpoint.Outpoint.{Outpoint}
use Rattle.sp_carry.specs.Payment.{Payment, Spent, is_same_outpoint, spends, conflicts}
use Rattle.sp_carry.specs.Ledger.{Ledger, some_carrier, is_sound, is_rival, accepts, accepted_carriers, is_accepted, HasNoTwins}
use Rattle.sp_carry.proofs.Members.{IsIn, in_from_contains, contains_from_in, member_of_any, any_of_member, member_of_all, in_flat_map, in_flat_map_from, in_filter, in_filter_from}
use Rattle.sp_carry.proofs.Acceptance.{Accepts, accepts_parts, carrier_found, found_carrier}

eqb_turned : (a b : ℕ) → eqb a b ≡ true → eqb b a ≡ true
eqb_turned a b e = eq-eqb b a (sym (eqb-true a b e))

eqb_comm : (a b : ℕ) → eqb a b ≡ eqb b a
eqb_comm a b =
    elim (cases_eq a b) [
      | inl e ↦ eq-eqb a b e ∙ sym (eq-eqb b a (sym e))
      | inr ne ↦ ne_eqb a b ne ∙ sym (ne_eqb b a (λ e. ne (sym e)))
    ]

pub same_outpoint_turned : (a b : Outpoint) → is_same_outpoint a b ≡ true → is_same_outpoint b a ≡ true
same_outpoint_turned a b h =
    let p : (eqb a.tx b.tx ≡ true) × (eqb a.index b.index ≡ true) = and_parts (eqb a.tx b.tx) (eqb a.index b.index) h in
    and_from (eqb b.tx a.tx) (eqb b.index a.index) (eqb_turned a.tx b.tx p.0) (eqb_turned a.index b.index p.1)

-- two transactions of different ids that both have an input of that outpoint
pub conflicts_from : (t u : Payment) (i j : Spent) → eqb t.id u.id ≡ false → IsIn t.inputs i → IsIn u.inputs j → is_same_outpoint j.from i.from ≡ true
    → conflicts t u ≡ true
conflicts_from t u i j apart a b same =
    and_from (not (eqb t.id u.id)) _ (not_from_false (eqb t.id u.id) apart)
    (any_of_member (λ (i : Spent). spends u i.from) t.inputs i a
    (any_of_member (λ (j : Spent). is_same_outpoint j.from i.from) u.inputs j b same))

pub conflicts_turned : (t u : Payment) → conflicts t u ≡ true → conflicts u t ≡ true
conflicts_turned t u h =
    let p : (not (eqb t.id u.id) ≡ true) × (list_any (λ (i : Spent). spends u i.from) t.inputs ≡ true) =
    and_parts (not (eqb t.id u.id)) (list_any (λ (i : Spent). spends u i.from) t.inputs) h in
    let i : (i : Spent) × IsIn t.inputs i × (spends u i.from ≡ true) = member_of_any (λ (i : Spent). spends u i.from) t.inputs p.1 in
    let j : (j : Spent) × IsIn u.inputs j × (is_same_outpoint j.from i.0.from ≡ true) =
    member_of_any (λ (j : Spent). is_same_outpoint j.from i.0.from) u.inputs i.2 in
    conflicts_from u t j.0 i.0 (eqb_comm u.id t.id ∙ not-true (eqb t.id u.id) p.0) j.1 i.1 (same_outpoint_turned j.0.from i.0.from j.2)

clash : (b : Bool) → b ≡ true → b ≡ false → ⊥
clash b h k = true≢false (sym h ∙ k)

int_eq_true : (a b : ℤ) → int_eq a b ≡ true → a ≡ b
int_eq_true a b h = (Decides-int_eq a b).0 h

-- an accepted carrier comes before each sound rival of its anticone
comes_before : (l : Ledger) (set : List ℕ) (z w : ℕ) (t u : Payment) → Accepts l set z t
    → has (anticone l.graph set z) w ≡ true → IsIn (l.txs w) u → is_rival l t w u ≡ true → virt l.graph set z w ≡ negsuc 0
comes_before l set z w t u a there carries rival =
    elim (cases_Bool (int_eq (virt l.graph set z w) (negsuc 0))) [
      | inl yes_it ↦ int_eq_true (virt l.graph set z w) (negsuc 0) yes_it
      | inr other ↦ absurd (clash _
          (found_carrier l (anticone l.graph set z) (λ w u. is_rival l t w u && not (int_eq (virt l.graph set z w) (negsuc 0))) w u there carries
          (and_from (is_rival l t w u) (not (int_eq (virt l.graph set z w) (negsuc 0))) rival (not_from_false (int_eq (virt l.graph set z w) (negsuc 0)) other)))
          a.later)
    ]

not_both_first : (v w : ℤ) → v ≡ negsuc 0 → w ≡ negsuc 0 → v ≡ neg_ℤ w → ⊥
not_both_first v w e f h = one_way (sym e ∙ h ∙ ap neg_ℤ f)
  where
    one_way : negsuc 0 ≡ neg_ℤ (negsuc 0) → ⊥
    one_way h = cc

in_anticone : (g : Graph) (set : List ℕ) (z w : ℕ) → has set w ≡ true → eqb w z ≡ false → in_past g w z ≡ false → in_past g z w ≡ false
    → has (anticone g set z) w ≡ true
in_anticone g set z w there apart below above =
    has-filter_from (λ w. not (eqb w z) && not (related g w z)) set w there
    (and_from (not (eqb w z)) (not (related g w z)) (not_from_false (eqb w z) apart) (not_from_false (related g w z) (unrelated (eqb w z) (in_past g w z) (in_past g z w) below above)))
  where
    unrelated : (same a b : Bool) → a ≡ false → b ≡ false → (not same && (a || b)) ≡ false
    unrelated true a b e f = refl
    unrelated false true b e f = e
    unrelated false false b e f = f

-- two accepted carriers in different blocks don't conflict
apart_in_blocks : (l : Ledger) (set : List ℕ) (z w : ℕ) (t u : Payment) → IsDownset l.graph set → has set z ≡ true → has set w ≡ true
    → IsIn (l.txs z) t → IsIn (l.txs w) u → z ≢ w
    → accepts l set z t ≡ true → accepts l set w u ≡ true → conflicts t u ≡ true → ⊥
apart_in_blocks l set z w t u down at_z at_w carries_t carries_u apart acc_t acc_u h =
    let a : Accepts l set z t = accepts_parts l set z t (down.all_complete z at_z) acc_t in
    let b : Accepts l set w u = accepts_parts l set w u (down.all_complete w at_w) acc_u in
    let rival_u : is_rival l t w u ≡ true = and_from (conflicts t u) (is_sound l w u) h b.sound in
    let rival_t : is_rival l u z t ≡ true = and_from (conflicts u t) (is_sound l z t) (conflicts_turned t u h) a.sound in
    by_place (in_past l.graph w z) (in_past l.graph z w) refl refl a b rival_u rival_t
  where
    by_place : (below above : Bool) → in_past l.graph w z ≡ below → in_past l.graph z w ≡ above → Accepts l set z t → Accepts l set w u
        → is_rival l t w u ≡ true → is_rival l u z t ≡ true → ⊥
    by_place true above e f a b rival_u rival_t =
        clash _
        (found_carrier l (past l.graph z) (λ w u. is_rival l t w u && accepts l set w u) w u
        (has-past_from l.graph z w (down.all_complete z at_z) e) carries_u (and_from (is_rival l t w u) (accepts l set w u) rival_u acc_u))
        a.alone
    by_place false true e f a b rival_u rival_t =
        clash _
        (found_carrier l (past l.graph w) (λ w t. is_rival l u w t && accepts l set w t) z t
        (has-past_from l.graph w z (down.all_complete w at_w) f) carries_t (and_from (is_rival l u z t) (accepts l set z t) rival_t acc_t))
        b.alone
    by_place false false e f a b rival_u rival_t =
        not_both_first (virt l.graph set z w) (virt l.graph set w z)
        (comes_before l set z w t u a (in_anticone l.graph set z w at_w (ne_eqb w z (λ s. apart (sym s))) e f) carries_u rival_u)
        (comes_before l set w z u t b (in_anticone l.graph set w z at_z (ne_eqb z w apart) f e) carries_t rival_t)
        (virt_neg l.graph set z w down apart)

pub accepted_from : (l : Ledger) (set : List ℕ) (t : Payment) → IsIn (accepted_carriers l set) t
    → (z : ℕ) × (has set z ≡ true) × IsIn (l.txs z) t × (accepts l set z t ≡ true)
accepted_from l set t h =
    let block : (z : ℕ) × IsIn set z × IsIn (filter (λ t. accepts l set z t) (l.txs z)) t =
    in_flat_map (λ z. filter (λ t. accepts l set z t) (l.txs z)) set t h in
    let both : IsIn (l.txs block.0) t × (accepts l set block.0 t ≡ true) = in_filter (λ t. accepts l set block.0 t) (l.txs block.0) t block.2 in
    (block.0, any_of_member (λ k. eqb k block.0) set block.0 block.1 (eq-eqb block.0 block.0 refl), both.0, both.1)

pub in_from_has : (set : List ℕ) (z : ℕ) → has set z ≡ true → IsIn set z
in_from_has set z h =
    let r : (k : ℕ) × IsIn set k × (eqb k z ≡ true) = member_of_any (λ k. eqb k z) set h in
    rw (← (eqb-true r.0 z r.2)) r.1

pub from_accepted : (l : Ledger) (set : List ℕ) (z : ℕ) (t : Payment) → has set z ≡ true → IsIn (l.txs z) t → accepts l set z t ≡ true
    → IsIn (accepted_carriers l set) t
from_accepted l set z t there carries acc =
    in_flat_map_from (λ z. filter (λ t. accepts l set z t) (l.txs z)) set z t (in_from_has set z there)
    (in_filter_from (λ t. accepts l set z t) (l.txs z) t carries acc)

pub no_conflict : (l : Ledger) (set : List ℕ) (t u : Payment) → IsDownset l.graph set → HasNoTwins l set
    → IsIn (accepted_carriers l set) t → IsIn (accepted_carriers l set) u → conflicts t u ≡ false
no_conflict l set t u down twins in_t in_u =
    let a : (z : ℕ) × (has set z ≡ true) × IsIn (l.txs z) t × (accepts l set z t ≡ true) = accepted_from l set t in_t in
    let b : (w : ℕ) × (has set w ≡ true) × IsIn (l.txs w) u × (accepts l set w u ≡ true) = accepted_from l set u in_u in
    elim (cases_eq a.0 b.0) [
      | inl same ↦ twins a.0 t u a.1 (contains_from_in (l.txs a.0) t a.2)
          (contains_from_in (l.txs a.0) u (let P : ℕ → Type 0 = λ w. IsIn (l.txs w) u in rw same b.2))
      | inr apart ↦ false_from_ne_true (conflicts t u)
          (apart_in_blocks l set a.0 b.0 t u down a.1 b.1 a.2 b.2 apart a.3 b.3)
    ]

-- the source of each input has an accepted carrier
pub accepted_source : (l : Ledger) (set : List ℕ) (t : Payment) (i : Spent) → IsDownset l.graph set → IsIn (accepted_carriers l set) t → IsIn t.inputs i
    → (u : Payment) × IsIn (accepted_carriers l set) u × (eqb u.id i.from.tx ≡ true)
accepted_source l set t i down in_t in_i =
    let a : (z : ℕ) × (has set z ≡ true) × IsIn (l.txs z) t × (accepts l set z t ≡ true) = accepted_from l set t in_t in
    let parts : Accepts l set a.0 t = accepts_parts l set a.0 t (down.all_complete a.0 a.1) a.3 in
    let test : ℕ → Payment → Bool = λ w u. (u.id == i.from.tx) && accepts l set w u in
    let found : (w : ℕ) × (u : Payment) × (has (past l.graph a.0) w ≡ true) × IsIn (l.txs w) u × ((eqb u.id i.from.tx && accepts l set w u) ≡ true) =
    carrier_found l (past l.graph a.0) (λ w u. (u.id == i.from.tx) && accepts l set w u)
    (member_of_all (λ (i : Spent). some_carrier l (past l.graph a.0) (λ w u. (u.id == i.from.tx) && accepts l set w u)) t.inputs i parts.sources in_i) in
    let both : (eqb found.1.id i.from.tx ≡ true) × (accepts l set found.0 found.1 ≡ true) = and_parts (eqb found.1.id i.from.tx) (accepts l set found.0 found.1) found.4 in
    (found.1, from_accepted l set found.0 found.1 (down.closed a.0 found.0 a.1 (has-past l.graph a.0 found.0 found.2)) found.3 both.1, both.0)

pub two_accepted : (l : Ledger) (set : List ℕ) (t u : Payment) → IsDownset l.graph set → HasNoTwins l set
    → Contains (accepted_carriers l set) t → Contains (accepted_carriers l set) u → conflicts t u ≡ false
two_accepted l set t u down twins in_t in_u =
    no_conflict l set t u down twins (in_from_contains (accepted_carriers l set) t in_t) (in_from_contains (accepted_carriers l set) u in_u)

pub sources_accepted : (l : Ledger) (set : List ℕ) (t : Payment) (i : Spent) → IsDownset l.graph set → Contains (accepted_carriers l set) t → Contains t.inputs i
    → is_accepted l set i.from.tx ≡ true
sources_accepted l set t i down in_t in_i =
    let r : (u : Payment) × IsIn (accepted_carriers l set) u × (eqb u.id i.from.tx ≡ true) =
    accepted_source l set t i down (in_from_contains (accepted_carriers l set) t in_t) (in_from_contains t.inputs i in_i) in
    any_of_member (λ (u : Payment). eqb u.id i.from.tx) (accepted_carriers l set) r.0 r.1 r.2
