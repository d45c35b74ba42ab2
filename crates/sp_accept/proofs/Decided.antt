-- What the flags of the carriers in a block's past give for a carrier of the block: what the definition of an accepted
-- carrier says, where it is known what is accepted in that past.
use Rattle.std.proofs.Common.{◌≡◌, ℕ, ◌<◌, Bool, true, false, cond, ◌&&◌, ◌||◌, not, List, map, length, get_or, Some, None, refl, sym, ap, ◌∙◌, inl, inr, arith, eqb}
use Rattle.std.specs.Prelude.{negsuc, Option, position}
use Rattle.std.specs.List.{list_any, list_all}
use Rattle.std.specs.Ordering.{int_eq}
use Rattle.std.proofs.Math.ListN.{length-map}
use Rattle.std.proofs.lemmas.Bool.{and_parts, and_from, eqb-true, eq-eqb, false_from_ne_true, not_from_false, not-true, or_cases, or_left, or_right}
use Rattle.std.proofs.lemmas.List.Folds.{list_all-map}
use Rattle.std.proofs.lemmas.List.Quantifiers.{position-Some}
use Rattle.sp_model.specs.Graph.{anticone, complete, has, in_past, keys, past, related}
use Rattle.sp_model.specs.Votes.{virt}
use Rattle.sp_model.proofs.Pasts.{has-past, has-past_from}
use Rattle.sp_model.proofs.Sets.{has-filter, has-filter_from, same_truth}
use Rattle.sp_tx.specs.Spending.{id_of}
use Rattle.sp_tx.specs.declared.parts.Input.{Input}
use Rattle.sp_dag.specs.Numbered.{Numbered, AreInOrder, graph_of}
use Rattle.sp_dag.proofs.Ranked.{all_complete, key_in, ancestors_lower}
use Rattle.sp_carry.specs.Payment.{Payment, Spent, conflicts, spent_by}
use Rattle.sp_carry.specs.Ledger.{Ledger, accepts_by, is_rival, is_sound, some_carrier}
use Rattle.sp_carry.specs.Carried.{AreSound, Carried, carriers_in, ledger_of}
use Rattle.sp_carry.specs.Lookups.{is_spent_by, spenders_in}
use Rattle.sp_carry.proofs.Acceptance.{carrier_found, found_carrier}
use Rattle.sp_carry.proofs.Members.{IsIn, all_agrees, any_of_member, member_of_any}
use Rattle.sp_carry.specs.Flags.{is_set}
use Rattle.sp_accept.specs.Pass.{has_source, inputs_at, is_accepted_below, is_beaten, is_beaten_at, is_lost, is_next, is_paid, is_paid_by}
use Rattle.sp_accept.specs.Rows.{no_row, payment_at, row_at}
use Rattle.sp_accept.specs.Standing.{is_before, is_below}
use Rattle.sp_accept.proofs.Carriers.{AreRows, carried_at, carries, conflict_from, conflict_to, id_is, lower_first}
use Rattle.sp_accept.proofs.Numbers.{carrier_of, of_carrier, of_spender, spender_of}
use Rattle.sp_accept.proofs.Places.{position_is}

-- the flags of the carriers in the past of carrier n's block say what is accepted of them
abbrev pub AreTold : Numbered → Carried → (ℕ → Payment → Bool) → List Bool → ℕ → Type 0
AreTold table k accepted flags n =
    (c : ℕ) → c < length k.rows → is_below table (row_at k.rows c).block (row_at k.rows n).block ≡ true
    → is_set flags c ≡ accepted (row_at k.rows c).block (payment_at k (row_at k.rows c).tx)

module _ (table : Numbered) (k : Carried) (kept : AreRows k) (blocks : length table.parents ≡ k.blocks) (order : AreInOrder table.parents) (sound : AreSound table k) (accepted : ℕ → Payment → Bool) where
  abbrev ledger : Ledger
  ledger = ledger_of table k

  abbrev set : List ℕ
  set = keys (graph_of table)

  abbrev block_of : ℕ → ℕ
  block_of c = (row_at k.rows c).block

  abbrev tx_of : ℕ → ℕ
  tx_of c = (row_at k.rows c).tx

  abbrev carried_by : ℕ → Payment
  carried_by c = payment_at k (tx_of c)

  -- ---- blocks

  block_in : (c : ℕ) → c < length k.rows → block_of c < length table.parents
  block_in c lt = (let b : block_of c < k.blocks = kept.inside c lt in omega (arith, b, blocks))

  pub member : (c : ℕ) → c < length k.rows → has set (block_of c) ≡ true
  member c lt = key_in table (block_of c) (block_in c lt)

  pub whole : (c : ℕ) → c < length k.rows → has (complete (graph_of table)) (block_of c) ≡ true
  whole c lt = all_complete table order (block_of c) (block_in c lt)

  -- a carrier of the past comes before
  pub past_first : (c n : ℕ) → c < length k.rows → n < length k.rows → in_past (graph_of table) (block_of c) (block_of n) ≡ true → c < n
  past_first c n lc ln under =
      lower_first k kept c n lc ln (ancestors_lower table (block_of c) (block_of n) order (block_in n ln) under)

  -- ---- sources

  abbrev has_source_here : ℕ → Input → ℕ → Payment → Bool
  has_source_here z i w u = eqb u.id i.from.tx && accepted w u

  source_forth : (flags : List Bool) (n s : ℕ) (i : Input) → AreTold table k accepted flags n → n < length k.rows
      → position (eqb i.from.tx) (map id_of k.txs) ≡ Some s → is_paid table k flags (block_of n) s ≡ true
      → some_carrier ledger (past ledger.graph (block_of n)) (has_source_here (block_of n) i) ≡ true
  source_forth flags n s i d ln found h =
      let c : (c : ℕ) × IsIn (carriers_in k.rows s) c × (is_accepted_below table k flags (block_of n) c ≡ true) =
      member_of_any (is_accepted_below table k flags (block_of n)) (carriers_in k.rows s) h in
      let p : (c.0 < length k.rows) × (tx_of c.0 ≡ s) = carrier_of k.rows s c.0 c.1 in
      let q : (is_set flags c.0 ≡ true) × (is_below table (block_of c.0) (block_of n) ≡ true) =
      and_parts (is_set flags c.0) (is_below table (block_of c.0) (block_of n)) c.2 in
      let a : accepted (block_of c.0) (carried_by c.0) ≡ true = sym (d c.0 p.0 q.1) ∙ q.0 in
      let known : tx_of c.0 < length k.txs = kept.known c.0 p.0 in
      let r = position-Some (eqb i.from.tx) (map id_of k.txs) s 0 found in
      let named : eqb (carried_by c.0).id i.from.tx ≡ true =
      eq-eqb (carried_by c.0).id i.from.tx
      (id_is k kept (tx_of c.0) known ∙ ap (λ (t : ℕ). get_or (map id_of k.txs) t 0) p.1 ∙ sym (eqb-true i.from.tx (get_or (map id_of k.txs) s 0) r.1)) in
      found_carrier ledger (past ledger.graph (block_of n)) (has_source_here (block_of n) i) (block_of c.0) (carried_by c.0)
      (has-past_from ledger.graph (block_of n) (block_of c.0) (whole n ln) q.1)
      (carries k kept c.0 p.0) (and_from (eqb (carried_by c.0).id i.from.tx) (accepted (block_of c.0) (carried_by c.0)) named a)

  -- what an accepted carrier in the past has
  pub record IsSource (flags : List Bool) (n : ℕ) (i : Input) (c : ℕ) : Type 0 where
    pub within : c < length k.rows
    pub found : position (eqb i.from.tx) (map id_of k.txs) ≡ Some (tx_of c)
    pub flag : is_set flags c ≡ true
    pub under : is_below table (block_of c) (block_of n) ≡ true

  source_found : (flags : List Bool) (n : ℕ) (i : Input) → AreTold table k accepted flags n → n < length k.rows
      → some_carrier ledger (past ledger.graph (block_of n)) (has_source_here (block_of n) i) ≡ true
      → (c : ℕ) × IsSource flags n i c
  source_found flags n i d ln h =
      let r : (w : ℕ) × (u : Payment) × (has (past ledger.graph (block_of n)) w ≡ true) × IsIn (ledger.txs w) u × (has_source_here (block_of n) i w u ≡ true) =
      carrier_found ledger (past ledger.graph (block_of n)) (has_source_here (block_of n) i) h in
      let under : in_past ledger.graph r.0 (block_of n) ≡ true = has-past ledger.graph (block_of n) r.0 r.2 in
      let c : (c : ℕ) × (c < length k.rows) × (block_of c ≡ r.0) × (carried_by c ≡ r.1) = carried_at k kept r.0 r.1 r.3 in
      let p : (eqb r.1.id i.from.tx ≡ true) × (accepted r.0 r.1 ≡ true) = and_parts (eqb r.1.id i.from.tx) (accepted r.0 r.1) r.4 in
      let below : in_past ledger.graph (block_of c.0) (block_of n) ≡ true = ap (λ (w : ℕ). in_past ledger.graph w (block_of n)) c.2 ∙ under in
      let known : tx_of c.0 < length k.txs = kept.known c.0 c.1 in (
        c.0,
        record {
          within = c.1;
          found = position_is (map id_of k.txs) i.from.tx (tx_of c.0) kept.distinct (omega (arith, known, length-map k.txs id_of))
              (sym (id_is k kept (tx_of c.0) known) ∙ ap (λ (u : Payment). u.id) c.3 ∙ eqb-true r.1.id i.from.tx p.0);
          flag = d c.0 c.1 below ∙ ap (λ (w : ℕ). accepted w (carried_by c.0)) c.2 ∙ ap (accepted r.0) c.3 ∙ p.1;
          under = below;
        },
      )

  source_is : (flags : List Bool) (n : ℕ) (i : Input) → AreTold table k accepted flags n → n < length k.rows
      → has_source table k flags (block_of n) i ≡ some_carrier ledger (past ledger.graph (block_of n)) (has_source_here (block_of n) i)
  source_is flags n i d ln = at (position (eqb i.from.tx) (map id_of k.txs)) refl
    where
      at : (o : Option ℕ) → position (eqb i.from.tx) (map id_of k.txs) ≡ o
          → is_paid_by table k flags (block_of n) o ≡ some_carrier ledger (past ledger.graph (block_of n)) (has_source_here (block_of n) i)
      at None e =
          sym (false_from_ne_true _ (λ h. (let c : (c : ℕ) × IsSource flags n i c = source_found flags n i d ln h in
          let clash : None ≡ Some (tx_of c.0) = sym e ∙ c.1.found in (let none : ⊥ = cc in none))))
      at (Some s) e = same_truth _ _ (source_forth flags n s i d ln e) back
        where
          back : some_carrier ledger (past ledger.graph (block_of n)) (has_source_here (block_of n) i) ≡ true → is_paid table k flags (block_of n) s ≡ true
          back h =
              let c : (c : ℕ) × IsSource flags n i c = source_found flags n i d ln h in
              let clash : Some (tx_of c.0) ≡ Some s = sym c.1.found ∙ e in
              let same : tx_of c.0 ≡ s = (cc) in
              any_of_member (is_accepted_below table k flags (block_of n)) (carriers_in k.rows s) c.0
              (of_carrier k.rows s c.0 c.1.within same)
              (and_from (is_set flags c.0) (is_below table (block_of c.0) (block_of n)) c.1.flag c.1.under)

  -- ---- rivals

  abbrev stands_beside : ℕ → ℕ → Payment → Bool
  stands_beside n w u = is_rival ledger (carried_by n) w u && not (int_eq (virt ledger.graph set (block_of n) w) (negsuc 0))

  abbrev stands_below : ℕ → ℕ → Payment → Bool
  stands_below n w u = is_rival ledger (carried_by n) w u && accepted w u

  -- the carrier c is a sound one of another transaction that spends the input's outpoint
  pub record IsRivalAt (n : ℕ) (i : Input) (c : ℕ) : Type 0 where
    pub within : c < length k.rows
    pub input : IsIn (inputs_at k (tx_of n)) i
    pub spent : is_spent_by i.from (inputs_at k (tx_of c)) ≡ true
    pub apart : eqb (tx_of c) (tx_of n) ≡ false
    pub valid : (row_at k.rows c).sound ≡ true

  pub rival_is : (n c : ℕ) (i : Input) → n < length k.rows → IsRivalAt n i c → is_rival ledger (carried_by n) (block_of c) (carried_by c) ≡ true
  rival_is n c i ln r =
      and_from (conflicts (carried_by n) (carried_by c)) (is_sound ledger (block_of c) (carried_by c))
      (conflict_from k kept (tx_of n) (tx_of c) i (kept.known n ln) (kept.known c r.within) r.input r.spent r.apart)
      (sym (sound c no_row r.within) ∙ r.valid)

  pub rival_at : (n c : ℕ) → n < length k.rows → c < length k.rows → is_rival ledger (carried_by n) (block_of c) (carried_by c) ≡ true
      → (i : Input) × IsRivalAt n i c
  rival_at n c ln lc h =
      let p : (conflicts (carried_by n) (carried_by c) ≡ true) × (is_sound ledger (block_of c) (carried_by c) ≡ true) =
      and_parts (conflicts (carried_by n) (carried_by c)) (is_sound ledger (block_of c) (carried_by c)) h in
      let i : (i : Input) × IsIn (inputs_at k (tx_of n)) i × (is_spent_by i.from (inputs_at k (tx_of c)) ≡ true) × (eqb (tx_of c) (tx_of n) ≡ false) =
      conflict_to k kept (tx_of n) (tx_of c) (kept.known n ln) (kept.known c lc) p.0 in
      (i.0, record { within = lc; input = i.1; spent = i.2; apart = i.3; valid = sound c no_row lc ∙ p.1 })

  -- what the code finds, where a rival stands in the way
  pub lost_at : (flags : List Bool) (n c : ℕ) (i : Input) → IsRivalAt n i c → is_beaten_at table k flags (block_of n) c ≡ true
      → list_any (is_lost table k flags (row_at k.rows n)) (inputs_at k (tx_of n)) ≡ true
  lost_at flags n c i r h =
      any_of_member (is_lost table k flags (row_at k.rows n)) (inputs_at k (tx_of n)) i r.input
      (any_of_member (λ other. not (eqb other (tx_of n)) && is_beaten table k flags (block_of n) other) (spenders_in k.txs i.from) (tx_of c)
      (of_spender k.txs _ i.from (tx_of c) (kept.known c r.within) r.spent)
      (and_from (not (eqb (tx_of c) (tx_of n))) (is_beaten table k flags (block_of n) (tx_of c)) (not_from_false (eqb (tx_of c) (tx_of n)) r.apart)
      (any_of_member (is_beaten_at table k flags (block_of n)) (carriers_in k.rows (tx_of c)) c (of_carrier k.rows (tx_of c) c r.within refl) h)))

  abbrev pub HasRival : List Bool → ℕ → Type 0
  HasRival flags n = (i : Input) × (c : ℕ) × IsRivalAt n i c × (is_beaten_at table k flags (block_of n) c ≡ true)

  pub lost_found : (flags : List Bool) (n : ℕ) → list_any (is_lost table k flags (row_at k.rows n)) (inputs_at k (tx_of n)) ≡ true → HasRival flags n
  lost_found flags n h =
      let i : (i : Input) × IsIn (inputs_at k (tx_of n)) i × (is_lost table k flags (row_at k.rows n) i ≡ true) =
      member_of_any (is_lost table k flags (row_at k.rows n)) (inputs_at k (tx_of n)) h in
      let s : (s : ℕ) × IsIn (spenders_in k.txs i.0.from) s × ((not (eqb s (tx_of n)) && is_beaten table k flags (block_of n) s) ≡ true) =
      member_of_any (λ other. not (eqb other (tx_of n)) && is_beaten table k flags (block_of n) other) (spenders_in k.txs i.0.from) i.2 in
      let q : (not (eqb s.0 (tx_of n)) ≡ true) × (is_beaten table k flags (block_of n) s.0 ≡ true) =
      and_parts (not (eqb s.0 (tx_of n))) (is_beaten table k flags (block_of n) s.0) s.2 in
      let c : (c : ℕ) × IsIn (carriers_in k.rows s.0) c × (is_beaten_at table k flags (block_of n) c ≡ true) =
      member_of_any (is_beaten_at table k flags (block_of n)) (carriers_in k.rows s.0) q.1 in
      let p : (c.0 < length k.rows) × (tx_of c.0 ≡ s.0) = carrier_of k.rows s.0 c.0 c.1 in
      let t = spender_of k.txs _ i.0.from s.0 s.1 in (
        i.0,
        c.0,
        record {
          within = p.0;
          input = i.1;
          spent = ap (λ (t : ℕ). is_spent_by i.0.from (inputs_at k t)) p.1 ∙ t.1;
          apart = ap (λ (t : ℕ). eqb t (tx_of n)) p.1 ∙ not-true (eqb s.0 (tx_of n)) q.0;
          valid = (and_parts (row_at k.rows c.0).sound _ c.2).0;
        },
        c.2,
      )

  apart_by : (z w : ℕ) → (eqb w z || in_past (graph_of table) z w) ≡ false → in_past (graph_of table) w z ≡ false
      → (not (eqb w z) && not (related (graph_of table) w z)) ≡ true
  apart_by z w h under = at (eqb w z) (in_past (graph_of table) w z) (in_past (graph_of table) z w) h under
    where
      at : (same a b : Bool) → (same || b) ≡ false → a ≡ false → (not same && not (not same && (a || b))) ≡ true
      at true a b h e = absurd (let f : true ≡ false = h in cc)
      at false true b h e = absurd (let f : true ≡ false = e in cc)
      at false false true h e = absurd (let f : true ≡ false = h in cc)
      at false false false h e = refl

  abbrev IsOutdone : ℕ → Bool
  IsOutdone n = some_carrier ledger (anticone ledger.graph set (block_of n)) (stands_beside n) || some_carrier ledger (past ledger.graph (block_of n)) (stands_below n)

  outdone_forth : (flags : List Bool) (n : ℕ) → AreTold table k accepted flags n → n < length k.rows → HasRival flags n → IsOutdone n ≡ true
  outdone_forth flags n d ln (i, c, r, h) = at (is_below table (block_of c) (block_of n)) refl (and_parts (row_at k.rows c).sound _ h).1
    where
      rival : is_rival ledger (carried_by n) (block_of c) (carried_by c) ≡ true
      rival = rival_is n c i ln r

      at : (b : Bool) → is_below table (block_of c) (block_of n) ≡ b
          → cond b (is_set flags c) (not (eqb (block_of c) (block_of n) || is_below table (block_of n) (block_of c)) && not (is_before table (block_of n) (block_of c))) ≡ true
          → IsOutdone n ≡ true
      at true under h =
          let a : accepted (block_of c) (carried_by c) ≡ true = sym (d c r.within under) ∙ h in
          or_right _ _
          (found_carrier ledger (past ledger.graph (block_of n)) (stands_below n) (block_of c) (carried_by c)
          (has-past_from ledger.graph (block_of n) (block_of c) (whole n ln) under) (carries k kept c r.within)
          (and_from (is_rival ledger (carried_by n) (block_of c) (carried_by c)) (accepted (block_of c) (carried_by c)) rival a))
      at false under h =
          let p : (not (eqb (block_of c) (block_of n) || is_below table (block_of n) (block_of c)) ≡ true) × (not (is_before table (block_of n) (block_of c)) ≡ true) =
          and_parts (not (eqb (block_of c) (block_of n) || is_below table (block_of n) (block_of c))) (not (is_before table (block_of n) (block_of c))) h in
          or_left _ _
          (found_carrier ledger (anticone ledger.graph set (block_of n)) (stands_beside n) (block_of c) (carried_by c)
          (has-filter_from (λ w. not (eqb w (block_of n)) && not (related (graph_of table) w (block_of n))) set (block_of c) (member c r.within)
          (apart_by (block_of n) (block_of c) (not-true _ p.0) under))
          (carries k kept c r.within)
          (and_from (is_rival ledger (carried_by n) (block_of c) (carried_by c)) (not (is_before table (block_of n) (block_of c))) rival p.1))

  beside_found : (flags : List Bool) (n : ℕ) → n < length k.rows
      → some_carrier ledger (anticone ledger.graph set (block_of n)) (stands_beside n) ≡ true
      → list_any (is_lost table k flags (row_at k.rows n)) (inputs_at k (tx_of n)) ≡ true
  beside_found flags n ln h =
      let r : (w : ℕ) × (u : Payment) × (has (anticone ledger.graph set (block_of n)) w ≡ true) × IsIn (ledger.txs w) u × (stands_beside n w u ≡ true) =
      carrier_found ledger (anticone ledger.graph set (block_of n)) (stands_beside n) h in
      let c : (c : ℕ) × (c < length k.rows) × (block_of c ≡ r.0) × (carried_by c ≡ r.1) = carried_at k kept r.0 r.1 r.3 in
      let m : (has set r.0 ≡ true) × ((not (eqb r.0 (block_of n)) && not (related (graph_of table) r.0 (block_of n))) ≡ true) =
      has-filter (λ w. not (eqb w (block_of n)) && not (related (graph_of table) w (block_of n))) set r.0 r.2 in
      by_number c.0 c.1
      (ap (λ (w : ℕ). not (eqb w (block_of n)) && not (related (graph_of table) w (block_of n))) c.2 ∙ m.1)
      (ap (λ (w : ℕ). stands_beside n w (carried_by c.0)) c.2 ∙ ap (stands_beside n r.0) c.3 ∙ r.4)
    where
      sides : (same a b : Bool) → (not same && not (not same && (a || b))) ≡ true → (a ≡ false) × ((same || b) ≡ false)
      sides true a b h = absurd (let f : false ≡ true = h in cc)
      sides false true b h = absurd (let f : false ≡ true = h in cc)
      sides false false true h = absurd (let f : false ≡ true = h in cc)
      sides false false false h = (refl, refl)

      by_number : (c : ℕ) → c < length k.rows
          → (not (eqb (block_of c) (block_of n)) && not (related (graph_of table) (block_of c) (block_of n))) ≡ true
          → stands_beside n (block_of c) (carried_by c) ≡ true
          → list_any (is_lost table k flags (row_at k.rows n)) (inputs_at k (tx_of n)) ≡ true
      by_number c lc apart stands =
          let p : (is_rival ledger (carried_by n) (block_of c) (carried_by c) ≡ true) × (not (is_before table (block_of n) (block_of c)) ≡ true) =
          and_parts (is_rival ledger (carried_by n) (block_of c) (carried_by c)) (not (is_before table (block_of n) (block_of c))) stands in
          let i : (i : Input) × IsRivalAt n i c = rival_at n c ln lc p.0 in
          let s : (in_past (graph_of table) (block_of c) (block_of n) ≡ false) × ((eqb (block_of c) (block_of n) || in_past (graph_of table) (block_of n) (block_of c)) ≡ false) =
          sides (eqb (block_of c) (block_of n)) (in_past (graph_of table) (block_of c) (block_of n)) (in_past (graph_of table) (block_of n) (block_of c)) apart in
          lost_at flags n c i.0 i.1 (rw (i.1.valid, s.0, s.1) p.1)

  below_found : (flags : List Bool) (n : ℕ) → AreTold table k accepted flags n → n < length k.rows
      → some_carrier ledger (past ledger.graph (block_of n)) (stands_below n) ≡ true
      → list_any (is_lost table k flags (row_at k.rows n)) (inputs_at k (tx_of n)) ≡ true
  below_found flags n d ln h =
      let r : (w : ℕ) × (u : Payment) × (has (past ledger.graph (block_of n)) w ≡ true) × IsIn (ledger.txs w) u × (stands_below n w u ≡ true) =
      carrier_found ledger (past ledger.graph (block_of n)) (stands_below n) h in
      let c : (c : ℕ) × (c < length k.rows) × (block_of c ≡ r.0) × (carried_by c ≡ r.1) = carried_at k kept r.0 r.1 r.3 in
      by_number c.0 c.1 (ap (λ (w : ℕ). in_past (graph_of table) w (block_of n)) c.2 ∙ has-past ledger.graph (block_of n) r.0 r.2)
      (ap (λ (w : ℕ). stands_below n w (carried_by c.0)) c.2 ∙ ap (stands_below n r.0) c.3 ∙ r.4)
    where
      by_number : (c : ℕ) → c < length k.rows → in_past (graph_of table) (block_of c) (block_of n) ≡ true
          → stands_below n (block_of c) (carried_by c) ≡ true
          → list_any (is_lost table k flags (row_at k.rows n)) (inputs_at k (tx_of n)) ≡ true
      by_number c lc under stands =
          let p : (is_rival ledger (carried_by n) (block_of c) (carried_by c) ≡ true) × (accepted (block_of c) (carried_by c) ≡ true) =
          and_parts (is_rival ledger (carried_by n) (block_of c) (carried_by c)) (accepted (block_of c) (carried_by c)) stands in
          let i : (i : Input) × IsRivalAt n i c = rival_at n c ln lc p.0 in
          lost_at flags n c i.0 i.1 (rw (i.1.valid, under) (d c lc under ∙ p.1))

  outdone_is : (flags : List Bool) (n : ℕ) → AreTold table k accepted flags n → n < length k.rows
      → list_any (is_lost table k flags (row_at k.rows n)) (inputs_at k (tx_of n)) ≡ IsOutdone n
  outdone_is flags n d ln = same_truth _ _ (λ h. outdone_forth flags n d ln (lost_found flags n h)) back
    where
      back : IsOutdone n ≡ true → list_any (is_lost table k flags (row_at k.rows n)) (inputs_at k (tx_of n)) ≡ true
      back h =
          elim (or_cases _ _ h) [
            | inl a ↦ beside_found flags n ln a
            | inr b ↦ below_found flags n d ln b
          ]

  -- ---- one carrier, where those of the past of its block are told

  pub next_is : (flags : List Bool) (n : ℕ) → AreTold table k accepted flags n → n < length k.rows
      → is_next table k flags n ≡ accepts_by ledger set accepted (block_of n) (carried_by n)
  next_is flags n d ln =
      joined _ _ _ _ _ _ _ (sound n no_row ln) sources (outdone_is flags n d ln)
    where
      sources : list_all (has_source table k flags (block_of n)) (inputs_at k (tx_of n))
          ≡ list_all (λ (i : Spent). some_carrier ledger (past ledger.graph (block_of n)) (λ w u. eqb u.id i.from.tx && accepted w u)) (carried_by n).inputs
      sources =
          all_agrees (has_source table k flags (block_of n))
          (λ (i : Input). some_carrier ledger (past ledger.graph (block_of n)) (has_source_here (block_of n) i)) (inputs_at k (tx_of n))
          (λ i _. source_is flags n i d ln)
          ∙ sym (list_all-map (λ (i : Spent). some_carrier ledger (past ledger.graph (block_of n)) (λ w u. eqb u.id i.from.tx && accepted w u)) spent_by (inputs_at k (tx_of n)))

      not_or : (a b : Bool) → not (a || b) ≡ (not a && not b)
      not_or true b = refl
      not_or false b = refl

      joined : (a a' b b' c x y : Bool) → a ≡ a' → b ≡ b' → c ≡ (x || y) → (a && (b && not c)) ≡ (a' && (b' && (not x && not y)))
      joined a a' b b' c x y e f g = rw (e, f, g, not_or x y) refl
