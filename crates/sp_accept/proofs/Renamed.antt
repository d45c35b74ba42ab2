-- Other keys of the blocks, in any order of the lists, change no acceptance; nor do blocks outside of the set.
use Rattle.std.proofs.Common.{◌≡◌, ℕ, zero, suc, Bool, true, ◌&&◌, not, List, [], ◌∷◌, map, length, refl, sym, ap, ◌∙◌, inl, inr, eqb}
use Rattle.std.specs.Prelude.{Option, Some, None, find, negsuc}
use Rattle.std.specs.List.{list_all}
use Rattle.std.specs.Ordering.{int_eq}
use Rattle.std.proofs.lemmas.Bool.{cases_eq, false≢true, eqb-true, eq-eqb, ne_eqb}
use Rattle.std.proofs.lemmas.List.{map-id}
use Rattle.sp_ids.specs.declared.outpoint.Outpoint.{Outpoint}
use Rattle.sp_model.specs.Agreement.{AgreesOn}
use Rattle.sp_model.specs.Graph.{AreDistinct, anticone, complete, has, in_past, keys, parents_of, past, related, rounds, IsDownset}
use Rattle.sp_model.specs.Renaming.{AreRenamed, IsRenamed}
use Rattle.sp_model.specs.Votes.{virt}
use Rattle.sp_model.proofs.Match.{Matched, SameOn, downset_match, in_past_match, virt_match}
use Rattle.sp_model.proofs.Pasts.{complete_key, has-past, has-past_from, past_lower}
use Rattle.sp_model.proofs.Sets.{has-filter, has-filter_from, same_truth}
use Rattle.sp_carry.specs.Payment.{Payment, Spent, amount_or_none, conflicts, finds, is_opened_by, output_at, output_in, spent_amount}
use Rattle.sp_carry.specs.Ledger.{Ledger, IsPlain, accepted_carriers, accepts, carried, is_accepted, is_carried, is_covered, is_empty, is_genesis, is_rival, is_sound, some_carrier, state}
use Rattle.sp_carry.proofs.Acceptance.{accepts_is, carrier_found, found_carrier}
use Rattle.sp_carry.proofs.Conflicts.{accepted_from, from_accepted, in_from_has}
use Rattle.sp_carry.proofs.Grants.{carried_below, carried_in, find_member, find_some}
use Rattle.sp_carry.proofs.Members.{IsIn, all_agrees, any_of_member, contains_from_in, in_flat_map, in_flat_map_from, member_of_any}
use Rattle.sp_carry.proofs.Sums.{sum_by_is, sums}

-- the other ledger is the ledger by other keys on a set, and carries the same transactions there
pub record IsSame (r : ℕ → ℕ) (D : ℕ → Type 0) (l l' : Ledger) (s s' : List ℕ) : Type 0 where
  pub same : SameOn r D l.graph l'.graph s s'
  pub distinct : AreDistinct (keys l.graph)
  pub distinct' : AreDistinct (keys l'.graph)
  pub once : AreDistinct s
  pub once' : AreDistinct s'
  pub txs : (z : ℕ) → has s z ≡ true → l'.txs (r z) ≡ l.txs z
  pub plain : IsPlain l s

from_in : (ks : List ℕ) (k : ℕ) → IsIn ks k → has ks k ≡ true
from_in ks k h = any_of_member (λ j. eqb j k) ks k h (eq-eqb k k refl)

-- ---- what an outpoint names, where two lists have the same members

AreSameMembers : List Payment → List Payment → Type 0
AreSameMembers xs ys = ((t : Payment) → IsIn xs t → IsIn ys t) × ((t : Payment) → IsIn ys t → IsIn xs t)

find_same : (id : ℕ) (xs ys : List Payment) → ((t u : Payment) → IsIn xs t → IsIn xs u → t.id ≡ u.id → t ≡ u)
    → ((t : Payment) → IsIn xs t → IsIn ys t) → ((t : Payment) → IsIn ys t → IsIn xs t)
    → find (λ (t : Payment). eqb t.id id) ys ≡ find (λ (t : Payment). eqb t.id id) xs
find_same id xs ys plain into back = at (find (λ (t : Payment). eqb t.id id) ys) (find (λ (t : Payment). eqb t.id id) xs) refl refl
  where
    at : (a b : Option Payment) → find (λ (t : Payment). eqb t.id id) ys ≡ a → find (λ (t : Payment). eqb t.id id) xs ≡ b → a ≡ b
    at None None e f = refl
    at None (Some v) e f =
        let m : IsIn xs v × (eqb v.id id ≡ true) = find_member (λ (t : Payment). eqb t.id id) xs v f in
        let n : (u : Payment) × (find (λ (t : Payment). eqb t.id id) ys ≡ Some u) = find_some (λ (t : Payment). eqb t.id id) ys v (into v m.0) m.1 in
        absurd (let h : None ≡ Some n.0 = sym e ∙ n.1 in cc)
    at (Some u) None e f =
        let m : IsIn ys u × (eqb u.id id ≡ true) = find_member (λ (t : Payment). eqb t.id id) ys u e in
        let n : (v : Payment) × (find (λ (t : Payment). eqb t.id id) xs ≡ Some v) = find_some (λ (t : Payment). eqb t.id id) xs u (back u m.0) m.1 in
        absurd (let h : None ≡ Some n.0 = sym f ∙ n.1 in cc)
    at (Some u) (Some v) e f =
        let m : IsIn xs v × (eqb v.id id ≡ true) = find_member (λ (t : Payment). eqb t.id id) xs v f in
        let n : IsIn ys u × (eqb u.id id ≡ true) = find_member (λ (t : Payment). eqb t.id id) ys u e in
        ap (λ (t : Payment). Some t) (plain u v (back u n.0) m.0 (eqb-true u.id id n.1 ∙ sym (eqb-true v.id id m.1)))

-- a test of what is found among the transactions
covered_same : (xs ys : List Payment) (t : Payment) → ((from : Outpoint) → output_at ys from ≡ output_at xs from) → is_covered ys t ≡ is_covered xs t
covered_same xs ys t h =
    let found : list_all (finds ys) t.inputs ≡ list_all (finds xs) t.inputs = all_agrees (finds ys) (finds xs) t.inputs (λ i _. ap (is_opened_by i.opens) (h i.from)) in
    let worth : spent_amount ys t ≡ spent_amount xs t =
    sum_by_is (λ (i : Spent). amount_or_none (output_at ys i.from)) t.inputs
    ∙ same_sums t.inputs
    ∙ sym (sum_by_is (λ (i : Spent). amount_or_none (output_at xs i.from)) t.inputs) in
    rw (found, worth) refl
  where
    same_sums : (is : List Spent) → sums (λ (i : Spent). amount_or_none (output_at ys i.from)) is ≡ sums (λ (i : Spent). amount_or_none (output_at xs i.from)) is
    same_sums [] = refl
    same_sums (i ∷ is) =
        let here : amount_or_none (output_at ys i.from) ≡ amount_or_none (output_at xs i.from) = ap amount_or_none (h i.from) in
        let rest : sums (λ (i : Spent). amount_or_none (output_at ys i.from)) is ≡ sums (λ (i : Spent). amount_or_none (output_at xs i.from)) is = same_sums is in
        cc

empty-map : (r : ℕ → ℕ) (ps : List ℕ) → is_empty (map r ps) ≡ is_empty ps
empty-map r [] = refl
empty-map r (p ∷ ps) = refl

module _ (r : ℕ → ℕ) (D : ℕ → Type 0) (l l' : Ledger) (s s' : List ℕ) (a : IsSame r D l l' s s') where
  in_set : (z w : ℕ) → has s z ≡ true → has (past l.graph z) w ≡ true → has s w ≡ true
  in_set z w h there = a.same.down.closed z w h (has-past l.graph z w there)

  past_matched : (z : ℕ) → has s z ≡ true → Matched r (past l.graph z) (past l'.graph (r z))
  past_matched z h = record {
    into = λ x m.
        has-past_from l'.graph (r z) (r x) (down'.all_complete (r z) (a.same.matched.into z h))
        (in_past_match r D l.graph l'.graph s s' x z a.same (a.same.inside x (in_set z x h m)) h ∙ has-past l.graph z x m);
    onto = λ y m.
        back y (has-past l'.graph (r z) y m) (a.same.matched.onto y (down'.closed (r z) y (a.same.matched.into z h) (has-past l'.graph (r z) y m)));
  }
    where
      down' : IsDownset l'.graph s'
      down' = downset_match r D l.graph l'.graph s s' a.same

      back : (y : ℕ) → in_past l'.graph y (r z) ≡ true → (x : ℕ) × (has s x ≡ true) × (r x ≡ y) → (x : ℕ) × (has (past l.graph z) x ≡ true) × (r x ≡ y)
      back y m x = (
        x.0,
        has-past_from l.graph z x.0 (a.same.down.all_complete z h)
            (sym (in_past_match r D l.graph l'.graph s s' x.0 z a.same (a.same.inside x.0 x.1) h) ∙ ap (λ (k : ℕ). in_past l'.graph k (r z)) x.2 ∙ m),
        x.2,
      )

  -- ---- carriers of sets that match

  carrier_match : (xs ys : List ℕ) (p q : ℕ → Payment → Bool) → Matched r xs ys → ((w : ℕ) → has xs w ≡ true → has s w ≡ true)
      → ((w : ℕ) (u : Payment) → has xs w ≡ true → IsIn (l.txs w) u → q (r w) u ≡ p w u) → some_carrier l' ys q ≡ some_carrier l xs p
  carrier_match xs ys p q m inside agree = same_truth (some_carrier l' ys q) (some_carrier l xs p) forth back
    where
      forth : some_carrier l' ys q ≡ true → some_carrier l xs p ≡ true
      forth h = at (carrier_found l' ys q h)
        where
          at : (w : ℕ) × (u : Payment) × (has ys w ≡ true) × IsIn (l'.txs w) u × (q w u ≡ true) → some_carrier l xs p ≡ true
          at c =
              let k : (x : ℕ) × (has xs x ≡ true) × (r x ≡ c.0) = m.onto c.0 c.2 in
              let carries : IsIn (l.txs k.0) c.1 = (let P : List Payment → Type 0 = λ ts. IsIn ts c.1 in rw (← (a.txs k.0 (inside k.0 k.1)), k.2) c.3) in
              found_carrier l xs p k.0 c.1 k.1 carries (sym (agree k.0 c.1 k.1 carries) ∙ ap (λ (w : ℕ). q w c.1) k.2 ∙ c.4)

      back : some_carrier l xs p ≡ true → some_carrier l' ys q ≡ true
      back h =
          let c : (w : ℕ) × (u : Payment) × (has xs w ≡ true) × IsIn (l.txs w) u × (p w u ≡ true) = carrier_found l xs p h in
          found_carrier l' ys q (r c.0) c.1 (m.into c.0 c.2) (rw (a.txs c.0 (inside c.0 c.2)) c.3) (agree c.0 c.1 c.2 c.3 ∙ c.4)

  eqb_matched : (x y : ℕ) → has s x ≡ true → has s y ≡ true → eqb (r x) (r y) ≡ eqb x y
  eqb_matched x y hx hy =
      elim (cases_eq x y) [
        | inl e ↦ eq-eqb (r x) (r y) (ap r e) ∙ sym (eq-eqb x y e)
        | inr ne ↦ ne_eqb (r x) (r y) (λ e. ne (a.same.one_to_one x y (a.same.inside x hx) (a.same.inside y hy) e)) ∙ sym (ne_eqb x y ne)
      ]

  anticone_matched : (z : ℕ) → has s z ≡ true → Matched r (anticone l.graph s z) (anticone l'.graph s' (r z))
  anticone_matched z h =
      record {
        into = λ x m. forth x (has-filter (λ w. not (eqb w z) && not (related l.graph w z)) s x m);
        onto = λ y m. back y (has-filter (λ w. not (eqb w (r z)) && not (related l'.graph w (r z))) s' y m);
      }
    where
      agrees : (x : ℕ) → has s x ≡ true → (not (eqb (r x) (r z)) && not (related l'.graph (r x) (r z))) ≡ (not (eqb x z) && not (related l.graph x z))
      agrees x there =
          rw (
            eqb_matched x z there h,
            in_past_match r D l.graph l'.graph s s' x z a.same (a.same.inside x there) h,
            in_past_match r D l.graph l'.graph s s' z x a.same (a.same.inside z h) there,
          ) refl

      forth : (x : ℕ) → (has s x ≡ true) × ((not (eqb x z) && not (related l.graph x z)) ≡ true) → has (anticone l'.graph s' (r z)) (r x) ≡ true
      forth x m = has-filter_from (λ w. not (eqb w (r z)) && not (related l'.graph w (r z))) s' (r x) (a.same.matched.into x m.0) (agrees x m.0 ∙ m.1)

      back : (y : ℕ) → (has s' y ≡ true) × ((not (eqb y (r z)) && not (related l'.graph y (r z))) ≡ true) → (x : ℕ) × (has (anticone l.graph s z) x ≡ true) × (r x ≡ y)
      back y m =
          let k : (x : ℕ) × (has s x ≡ true) × (r x ≡ y) = a.same.matched.onto y m.0 in
          (k.0, has-filter_from (λ w. not (eqb w z) && not (related l.graph w z)) s k.0 k.1 (sym (agrees k.0 k.1) ∙ ap (λ (w : ℕ). not (eqb w (r z)) && not (related l'.graph w (r z))) k.2 ∙ m.1), k.2)

  -- ---- soundness

  pub sound_match : (z : ℕ) (t : Payment) → has s z ≡ true → is_sound l' (r z) t ≡ is_sound l z t
  sound_match z t h =
      let genesis : is_genesis l' (r z) ≡ is_genesis l z = ap is_empty (a.same.parents z h) ∙ empty-map r (parents_of l.graph z) in
      let covered : is_covered (carried l' (past l'.graph (r z))) t ≡ is_covered (carried l (past l.graph z)) t =
      covered_same (carried l (past l.graph z)) (carried l' (past l'.graph (r z))) t
      (λ from. ap (λ (f : Option Payment). output_in f from.index)
      (find_same from.tx (carried l (past l.graph z)) (carried l' (past l'.graph (r z)))
      (λ t u in_t in_u. a.plain t u (contains_from_in (carried l s) t (carried_below l s z t a.same.down h in_t)) (contains_from_in (carried l s) u (carried_below l s z u a.same.down h in_u)))
      into back)) in
      rw (genesis, covered) refl
    where
      into : (t : Payment) → IsIn (carried l (past l.graph z)) t → IsIn (carried l' (past l'.graph (r z))) t
      into t in_t =
          let k : (w : ℕ) × IsIn (past l.graph z) w × IsIn (l.txs w) t = in_flat_map l.txs (past l.graph z) t in_t in
          let there : has (past l.graph z) k.0 ≡ true = from_in (past l.graph z) k.0 k.1 in
          in_flat_map_from l'.txs (past l'.graph (r z)) (r k.0) t (in_from_has (past l'.graph (r z)) (r k.0) ((past_matched z h).into k.0 there))
          (rw (a.txs k.0 (in_set z k.0 h there)) k.2)

      back : (t : Payment) → IsIn (carried l' (past l'.graph (r z))) t → IsIn (carried l (past l.graph z)) t
      back t in_t =
          let k : (w : ℕ) × IsIn (past l'.graph (r z)) w × IsIn (l'.txs w) t = in_flat_map l'.txs (past l'.graph (r z)) t in_t in
          let x : (x : ℕ) × (has (past l.graph z) x ≡ true) × (r x ≡ k.0) = (past_matched z h).onto k.0 (from_in (past l'.graph (r z)) k.0 k.1) in
          let carries : IsIn (l.txs x.0) t = rw (← (a.txs x.0 (in_set z x.0 h x.1)), x.2) k.2 in
          in_flat_map_from l.txs (past l.graph z) x.0 t (in_from_has (past l.graph z) x.0 x.1) carries

  -- ---- acceptance

  accepts_match_in : (k : ℕ) (z : ℕ) (t : Payment) → has s z ≡ true → has (rounds k l.graph) z ≡ true → accepts l' s' (r z) t ≡ accepts l s z t
  unfolding rounds
  accepts_match_in zero z t h low = absurd (false≢true low)
  accepts_match_in (suc k) z t h low =
      by_parts (λ w u there. accepts_match_in k w u (in_set z w h there) (past_lower k l.graph w z low (has-past l.graph z w there)))
    where
      beside : (w : ℕ) → has (anticone l.graph s z) w ≡ true → has s w ≡ true
      beside w there = (has-filter (λ w. not (eqb w z) && not (related l.graph w z)) s w there).0

      rivals : (w : ℕ) (u : Payment) → has s w ≡ true → is_rival l' t (r w) u ≡ is_rival l t w u
      rivals w u there = ap (λ (b : Bool). conflicts t u && b) (sound_match w u there)

      by_parts : ((w : ℕ) (u : Payment) → has (past l.graph z) w ≡ true → accepts l' s' (r w) u ≡ accepts l s w u) → accepts l' s' (r z) t ≡ accepts l s z t
      by_parts below =
          let sources : list_all (λ (i : Spent). some_carrier l' (past l'.graph (r z)) (λ w u. eqb u.id i.from.tx && accepts l' s' w u)) t.inputs
          ≡ list_all (λ (i : Spent). some_carrier l (past l.graph z) (λ w u. eqb u.id i.from.tx && accepts l s w u)) t.inputs =
          all_agrees _ _ t.inputs (λ i _. carrier_match (past l.graph z) (past l'.graph (r z))
          (λ w u. eqb u.id i.from.tx && accepts l s w u) (λ w u. eqb u.id i.from.tx && accepts l' s' w u) (past_matched z h) (λ w there. in_set z w h there)
          (λ w u there carries. ap (λ (b : Bool). eqb u.id i.from.tx && b) (below w u there))) in
          let later : some_carrier l' (anticone l'.graph s' (r z)) (λ w u. is_rival l' t w u && not (int_eq (virt l'.graph s' (r z) w) (negsuc 0)))
          ≡ some_carrier l (anticone l.graph s z) (λ w u. is_rival l t w u && not (int_eq (virt l.graph s z w) (negsuc 0))) =
          carrier_match (anticone l.graph s z) (anticone l'.graph s' (r z))
          (λ w u. is_rival l t w u && not (int_eq (virt l.graph s z w) (negsuc 0))) (λ w u. is_rival l' t w u && not (int_eq (virt l'.graph s' (r z) w) (negsuc 0)))
          (anticone_matched z h) beside
          (λ w u there carries. rw (
            rivals w u (beside w there),
            virt_match r D l.graph l'.graph s s' z w a.same a.distinct a.distinct' a.once a.once' (a.same.inside z h) (a.same.inside w (beside w there)),
          ) refl) in
          let alone : some_carrier l' (past l'.graph (r z)) (λ w u. is_rival l' t w u && accepts l' s' w u)
          ≡ some_carrier l (past l.graph z) (λ w u. is_rival l t w u && accepts l s w u) =
          carrier_match (past l.graph z) (past l'.graph (r z)) (λ w u. is_rival l t w u && accepts l s w u) (λ w u. is_rival l' t w u && accepts l' s' w u)
          (past_matched z h) (λ w there. in_set z w h there)
          (λ w u there carries. rw (rivals w u (in_set z w h there), below w u there) refl) in
          accepts_is l' s' (r z) t ((downset_match r D l.graph l'.graph s s' a.same).all_complete (r z) (a.same.matched.into z h))
          ∙ rw (sound_match z t h, sources, later, alone) refl
          ∙ sym (accepts_is l s z t (a.same.down.all_complete z h))

  pub accepts_match : (z : ℕ) (t : Payment) → has s z ≡ true → accepts l' s' (r z) t ≡ accepts l s z t
  unfolding complete
  accepts_match z t h = accepts_match_in (length l.graph.blocks) z t h (a.same.down.all_complete z h)

  pub accepted_match : (id : ℕ) → is_accepted l' s' id ≡ is_accepted l s id
  accepted_match id = same_truth (is_accepted l' s' id) (is_accepted l s id) back forth
    where
      forth : is_accepted l s id ≡ true → is_accepted l' s' id ≡ true
      forth h =
          let u : (u : Payment) × IsIn (accepted_carriers l s) u × (eqb u.id id ≡ true) = member_of_any (λ (u : Payment). eqb u.id id) (accepted_carriers l s) h in
          let c : (z : ℕ) × (has s z ≡ true) × IsIn (l.txs z) u.0 × (accepts l s z u.0 ≡ true) = accepted_from l s u.0 u.1 in
          any_of_member (λ (u : Payment). eqb u.id id) (accepted_carriers l' s') u.0
          (from_accepted l' s' (r c.0) u.0 (a.same.matched.into c.0 c.1) (rw (a.txs c.0 c.1) c.2) (accepts_match c.0 u.0 c.1 ∙ c.3)) u.2

      back : is_accepted l' s' id ≡ true → is_accepted l s id ≡ true
      back h =
          let u : (u : Payment) × IsIn (accepted_carriers l' s') u × (eqb u.id id ≡ true) = member_of_any (λ (u : Payment). eqb u.id id) (accepted_carriers l' s') h in
          let c : (z : ℕ) × (has s' z ≡ true) × IsIn (l'.txs z) u.0 × (accepts l' s' z u.0 ≡ true) = accepted_from l' s' u.0 u.1 in
          let x : (x : ℕ) × (has s x ≡ true) × (r x ≡ c.0) = a.same.matched.onto c.0 c.1 in
          any_of_member (λ (u : Payment). eqb u.id id) (accepted_carriers l s) u.0
          (from_accepted l s x.0 u.0 x.1 (rw (← (a.txs x.0 x.1), x.2) c.2)
          (sym (accepts_match x.0 u.0 x.1) ∙ ap (λ (w : ℕ). accepts l' s' w u.0) x.2 ∙ c.3)) u.2

  pub carried_match : (id : ℕ) → is_carried l' s' id ≡ is_carried l s id
  carried_match id = same_truth (is_carried l' s' id) (is_carried l s id) back forth
    where
      forth : is_carried l s id ≡ true → is_carried l' s' id ≡ true
      forth h =
          let u : (u : Payment) × IsIn (carried l s) u × (eqb u.id id ≡ true) = member_of_any (λ (u : Payment). eqb u.id id) (carried l s) h in
          let c : (z : ℕ) × IsIn s z × IsIn (l.txs z) u.0 = in_flat_map l.txs s u.0 u.1 in
          let there : has s c.0 ≡ true = from_in s c.0 c.1 in
          any_of_member (λ (u : Payment). eqb u.id id) (carried l' s') u.0
          (carried_in l' s' (r c.0) u.0 (a.same.matched.into c.0 there) (rw (a.txs c.0 there) c.2)) u.2

      back : is_carried l' s' id ≡ true → is_carried l s id ≡ true
      back h =
          let u : (u : Payment) × IsIn (carried l' s') u × (eqb u.id id ≡ true) = member_of_any (λ (u : Payment). eqb u.id id) (carried l' s') h in
          let c : (z : ℕ) × IsIn s' z × IsIn (l'.txs z) u.0 = in_flat_map l'.txs s' u.0 u.1 in
          let x : (x : ℕ) × (has s x ≡ true) × (r x ≡ c.0) = a.same.matched.onto c.0 (from_in s' c.0 c.1) in
          any_of_member (λ (u : Payment). eqb u.id id) (carried l s) u.0 (carried_in l s x.0 u.0 x.1 (rw (← (a.txs x.0 x.1), x.2) c.2)) u.2

  pub state_match : (id : ℕ) → state l' s' id ≡ state l s id
  state_match id = rw (carried_match id, accepted_match id) refl

-- ---- under other keys

pub renamed_same : (r : ℕ → ℕ) (l l' : Ledger) (s s' : List ℕ) → IsRenamed r l.graph l'.graph → IsDownset l.graph s → AreRenamed r s s'
    → AreDistinct s → AreDistinct s' → ((z : ℕ) → has s z ≡ true → l'.txs (r z) ≡ l.txs z) → IsPlain l s
    → IsSame r (λ k. has (keys l.graph) k ≡ true) l l' s s'
renamed_same r l l' s s' named down sets once once' txs plain = record {
  same = record {
    one_to_one = named.one_to_one;
    inside = λ z h. key z h;
    matched = record { into = sets.into; onto = sets.onto };
    down = down;
    keys' = λ z h. named.into z (key z h);
    parents = λ z h. named.parents z (key z h);
    ranks = λ z h. named.ranks z (key z h);
    profile = named.profile;
  };
  distinct = named.distinct;
  distinct' = named.other_distinct;
  once = once;
  once' = once';
  txs = txs;
  plain = plain;
}
  where
    key : (z : ℕ) → has s z ≡ true → has (keys l.graph) z ≡ true
    key z h = complete_key l.graph z (down.all_complete z h)

-- ---- in a graph that agrees on the set

pub agreeing_same : (l l' : Ledger) (s : List ℕ) → AgreesOn s l.graph l'.graph → IsDownset l.graph s → AreDistinct s
    → ((z : ℕ) → has s z ≡ true → l'.txs z ≡ l.txs z) → IsPlain l s → IsSame (λ (k : ℕ). k) (λ k. Unit {0}) l l' s s
agreeing_same l l' s agrees down once txs plain = record {
  same = record {
    one_to_one = λ a b da db e. e;
    inside = λ z h. tt;
    matched = record { into = λ x h. h; onto = λ y h. (y, h, refl) };
    down = down;
    keys' = agrees.there;
    parents = λ z h. agrees.parents z h ∙ sym (map-id (parents_of l.graph z));
    ranks = agrees.ranks;
    profile = agrees.profile;
  };
  distinct = agrees.distinct;
  distinct' = agrees.other_distinct;
  once = once;
  once' = once;
  txs = txs;
  plain = plain;
}

-- ---- the laws

module _ (r : ℕ → ℕ) (l l' : Ledger) (s s' : List ℕ) where
  pub accepts_renamed : (z : ℕ) (t : Payment) → IsRenamed r l.graph l'.graph → IsDownset l.graph s → AreRenamed r s s' → AreDistinct s → AreDistinct s'
      → ((w : ℕ) → has s w ≡ true → l'.txs (r w) ≡ l.txs w) → IsPlain l s → has s z ≡ true → accepts l' s' (r z) t ≡ accepts l s z t
  accepts_renamed z t named down sets once once' txs plain h =
      accepts_match r (λ k. has (keys l.graph) k ≡ true) l l' s s' (renamed_same r l l' s s' named down sets once once' txs plain) z t h

  pub accepted_renamed : (id : ℕ) → IsRenamed r l.graph l'.graph → IsDownset l.graph s → AreRenamed r s s' → AreDistinct s → AreDistinct s'
      → ((w : ℕ) → has s w ≡ true → l'.txs (r w) ≡ l.txs w) → IsPlain l s → is_accepted l' s' id ≡ is_accepted l s id
  accepted_renamed id named down sets once once' txs plain =
      accepted_match r (λ k. has (keys l.graph) k ≡ true) l l' s s' (renamed_same r l l' s s' named down sets once once' txs plain) id

  pub state_renamed : (id : ℕ) → IsRenamed r l.graph l'.graph → IsDownset l.graph s → AreRenamed r s s' → AreDistinct s → AreDistinct s'
      → ((w : ℕ) → has s w ≡ true → l'.txs (r w) ≡ l.txs w) → IsPlain l s → state l' s' id ≡ state l s id
  state_renamed id named down sets once once' txs plain =
      state_match r (λ k. has (keys l.graph) k ≡ true) l l' s s' (renamed_same r l l' s s' named down sets once once' txs plain) id

module _ (l l' : Ledger) (s : List ℕ) where
  pub accepts_restricted : (z : ℕ) (t : Payment) → AgreesOn s l.graph l'.graph → IsDownset l.graph s → AreDistinct s
      → ((w : ℕ) → has s w ≡ true → l'.txs w ≡ l.txs w) → IsPlain l s → has s z ≡ true → accepts l' s z t ≡ accepts l s z t
  accepts_restricted z t agrees down once txs plain h =
      accepts_match (λ (k : ℕ). k) (λ k. Unit {0}) l l' s s (agreeing_same l l' s agrees down once txs plain) z t h

  pub accepted_restricted : (id : ℕ) → AgreesOn s l.graph l'.graph → IsDownset l.graph s → AreDistinct s
      → ((w : ℕ) → has s w ≡ true → l'.txs w ≡ l.txs w) → IsPlain l s → is_accepted l' s id ≡ is_accepted l s id
  accepted_restricted id agrees down once txs plain =
      accepted_match (λ (k : ℕ). k) (λ k. Unit {0}) l l' s s (agreeing_same l l' s agrees down once txs plain) id

  pub state_restricted : (id : ℕ) → AgreesOn s l.graph l'.graph → IsDownset l.graph s → AreDistinct s
      → ((w : ℕ) → has s w ≡ true → l'.txs w ≡ l.txs w) → IsPlain l s → state l' s id ≡ state l s id
  state_restricted id agrees down once txs plain =
      state_match (λ (k : ℕ). k) (λ k. Unit {0}) l l' s s (agreeing_same l l' s agrees down once txs plain) id
