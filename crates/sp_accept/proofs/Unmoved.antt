-- Carriers on which the blocks that joined the set don't bear: what the old flags say of them is what the flags below them give.
use Rattle.std.proofs.Common.{◌≡◌, ◌<◌, ◌≤◌, ◌∙◌, ◌&&◌, not, ℕ, Bool, true, false, List, [], ◌∷◌, inl, inr, arith, refl, sym, ap, length, eqb}
use Rattle.std.specs.Prelude.{negsuc, ℤ}
use Rattle.std.specs.Ordering.{int_eq}
use Rattle.std.proofs.lemmas.Bool.{and_from, and_parts, cases_lt, eq-eqb, false≢true, lt-ltb, not-true}
use Rattle.sp_tx.specs.Parts.{of_parts}
use Rattle.sp_tx.specs.declared.parts.Input.{Input}
use Rattle.sp_model.specs.Graph.{anticone, has, keys, related}
use Rattle.sp_model.specs.Votes.{virt}
use Rattle.sp_model.proofs.Sets.{has-filter, has-filter_from, same_truth}
use Rattle.sp_dag.specs.Numbered.{Numbered, AreInOrder, graph_of}
use Rattle.sp_dag.proofs.Ranked.{key_in, ancestors_lower}
use Rattle.sp_carry.specs.Payment.{Payment, is_same_outpoint}
use Rattle.sp_carry.specs.Ledger.{accepts, has_sources, is_alone, is_first, is_rival, is_sound, some_carrier}
use Rattle.sp_carry.specs.Carried.{AreSound, Carried, ledger_of}
use Rattle.sp_carry.proofs.Acceptance.{accepts_is, carrier_found, found_carrier}
use Rattle.sp_carry.specs.Lookups.{spenders_in}
use Rattle.sp_ids.specs.declared.outpoint.Outpoint.{Outpoint}
use Rattle.sp_carry.proofs.Members.{IsIn, any_of_member, member_of_any}
use Rattle.sp_carry.specs.Flags.{is_set}
use Rattle.sp_accept.specs.Acceptance.{first_blocks, is_accepted_carrier}
use Rattle.sp_accept.specs.Pass.{inputs_at, is_next}
use Rattle.sp_accept.specs.Rows.{payment_at, row_at}
use Rattle.sp_accept.specs.Standing.{is_before, is_below}
use Rattle.sp_accept.proofs.Carriers.{AreRows, carried_at, carries, same_turned}
use Rattle.sp_accept.proofs.Decided.{IsRivalAt, next_is, rival_at, whole}
use Rattle.sp_accept.specs.Todo.{is_contested, is_shared}
use Rattle.sp_accept.proofs.Numbers.{of_spender}
use Rattle.sp_accept.proofs.StillRight.{first_in, of_first}

module _ (table : Numbered) (k : Carried) (kept : AreRows k) (blocks : length table.parents ≡ k.blocks) (order : AreInOrder table.parents) (sound : AreSound table k) where
  abbrev block_of : ℕ → ℕ
  block_of c = (row_at k.rows c).block

  abbrev tx_of : ℕ → ℕ
  tx_of c = (row_at k.rows c).tx

  abbrev carried_by : ℕ → Payment
  carried_by c = payment_at k (tx_of c)

  abbrev set : List ℕ
  set = keys (graph_of table)

  -- a rival's transaction is contested
  contested_from : (c e : ℕ) (i : Input) → c < length k.rows → e < length k.rows → IsRivalAt table k kept blocks order sound (λ w u. false) c i e → is_contested k (tx_of e) ≡ true
  contested_from c e i lc le r =
      let j : (j : Input) × IsIn (inputs_at k (tx_of e)) j × (is_same_outpoint i.from j.from ≡ true) =
      member_of_any (λ (j : Input). is_same_outpoint i.from j.from) (inputs_at k (tx_of e)) r.spent in
      any_of_member (is_shared k) (inputs_at k (tx_of e)) j.0 j.1
      (lt-ltb 1 (length (spenders_in k.txs j.0.from))
      (two_there (spenders_in k.txs j.0.from) (tx_of e) (tx_of c) r.apart
      (of_spender k.txs (of_parts [] []) j.0.from (tx_of e) (kept.known e le)
      (any_of_member (λ (l : Input). is_same_outpoint j.0.from l.from) (inputs_at k (tx_of e)) j.0 j.1 (itself j.0.from)))
      (of_spender k.txs (of_parts [] []) j.0.from (tx_of c) (kept.known c lc)
      (any_of_member (λ (l : Input). is_same_outpoint j.0.from l.from) (inputs_at k (tx_of c)) i r.input (same_turned j.0.from i.from ∙ j.2)))))
    where
      itself : (o : Outpoint) → is_same_outpoint o o ≡ true
      itself o = and_from (eqb o.tx o.tx) (eqb o.index o.index) (eq-eqb o.tx o.tx refl) (eq-eqb o.index o.index refl)

      one_there : (xs : List ℕ) (x : ℕ) → IsIn xs x → 0 < length xs
      one_there [] x h = absurd h
      one_there (y ∷ xs) x h = omega arith

      two_there : (xs : List ℕ) (x y : ℕ) → eqb x y ≡ false → IsIn xs x → IsIn xs y → 1 < length xs
      two_there [] x y e a b = absurd a
      two_there (z ∷ xs) x y e a b =
          elim a [
            | inl here ↦ elim b [
              | inl too ↦ absurd (false≢true (sym e ∙ eq-eqb x y (omega (arith, here, too))))
              | inr there ↦ (let some = one_there xs y there in omega (arith, some))
            ]
            | inr there ↦ (let some = one_there xs x there in omega (arith, some))
          ]

  -- ---- one carrier of the first n blocks

  module _ (n : ℕ) (few : n ≤ k.blocks) (c : ℕ) (lc : c < length k.rows) (old : block_of c < n)
      (no_new : (e : ℕ) → e < length k.rows → n ≤ block_of e → (row_at k.rows e).sound ≡ true → is_contested k (tx_of e) ≡ true → related (graph_of table) (block_of e) (block_of c) ≡ false
      → eqb (block_of e) (block_of c) ≡ false → is_before table (block_of c) (block_of e) ≡ false → ⊥)
      (stays : (e : ℕ) → e < length k.rows → block_of e < n → related (graph_of table) (block_of e) (block_of c) ≡ false → eqb (block_of e) (block_of c) ≡ false
      → virt (graph_of table) (first_blocks n) (block_of c) (block_of e) ≡ virt (graph_of table) set (block_of c) (block_of e)) where
    beside_in : List ℕ → ℕ → Payment → Bool
    beside_in s w u = is_rival (ledger_of table k) (carried_by c) w u && not (int_eq (virt (graph_of table) s (block_of c) w) (negsuc 0))

    abbrev is_apart : ℕ → Bool
    is_apart w = not (eqb w (block_of c)) && not (related (graph_of table) w (block_of c))

    -- a rival in an unrelated block stands in the way in the one set where it does in the other
    moved : (one other : List ℕ) → ((e : ℕ) → e < length k.rows → has one (block_of e) ≡ true → (row_at k.rows e).sound ≡ true → is_contested k (tx_of e) ≡ true → is_apart (block_of e) ≡ true
        → not (int_eq (virt (graph_of table) one (block_of c) (block_of e)) (negsuc 0)) ≡ true
        → (has other (block_of e) ≡ true) × (virt (graph_of table) other (block_of c) (block_of e) ≡ virt (graph_of table) one (block_of c) (block_of e)))
        → some_carrier (ledger_of table k) (anticone (graph_of table) one (block_of c)) (beside_in one) ≡ true
        → some_carrier (ledger_of table k) (anticone (graph_of table) other (block_of c)) (beside_in other) ≡ true
    unfolding beside_in
    moved one other same h =
        let r : (w : ℕ) × (u : Payment) × (has (anticone (graph_of table) one (block_of c)) w ≡ true) × IsIn ((ledger_of table k).txs w) u × (beside_in one w u ≡ true) =
        carrier_found (ledger_of table k) (anticone (graph_of table) one (block_of c)) (beside_in one) h in
        let e : (e : ℕ) × (e < length k.rows) × (block_of e ≡ r.0) × (carried_by e ≡ r.1) = carried_at k kept r.0 r.1 r.3 in
        let m : (has one r.0 ≡ true) × (is_apart r.0 ≡ true) = has-filter is_apart one r.0 r.2 in
        by_number e.0 e.1 (ap (has one) e.2 ∙ m.0) (ap is_apart e.2 ∙ m.1)
        (ap (λ (w : ℕ). beside_in one w (carried_by e.0)) e.2 ∙ ap (beside_in one r.0) e.3 ∙ r.4)
      where
        by_number : (e : ℕ) → e < length k.rows → has one (block_of e) ≡ true → is_apart (block_of e) ≡ true → beside_in one (block_of e) (carried_by e) ≡ true
            → some_carrier (ledger_of table k) (anticone (graph_of table) other (block_of c)) (beside_in other) ≡ true
        by_number e le there apart stands =
            let p : (is_rival (ledger_of table k) (carried_by c) (block_of e) (carried_by e) ≡ true) × (not (int_eq (virt (graph_of table) one (block_of c) (block_of e)) (negsuc 0)) ≡ true) =
            and_parts (is_rival (ledger_of table k) (carried_by c) (block_of e) (carried_by e)) _ stands in
            let i : (i : Input) × IsRivalAt table k kept blocks order sound (λ w u. false) c i e = rival_at table k kept blocks order sound (λ w u. false) c e lc le p.0 in
            let s : (has other (block_of e) ≡ true) × (virt (graph_of table) other (block_of c) (block_of e) ≡ virt (graph_of table) one (block_of c) (block_of e)) =
            same e le there i.1.valid (contested_from c e i.0 lc le i.1) apart p.1 in
            found_carrier (ledger_of table k) (anticone (graph_of table) other (block_of c)) (beside_in other) (block_of e) (carried_by e)
            (has-filter_from is_apart other (block_of e) s.0 apart) (carries k kept e le)
            (and_from (is_rival (ledger_of table k) (carried_by c) (block_of e) (carried_by e)) (not (int_eq (virt (graph_of table) other (block_of c) (block_of e)) (negsuc 0)))
            p.0 (ap (λ (v : ℤ). not (int_eq v (negsuc 0))) s.1 ∙ p.1))

    apart_parts : (w : ℕ) → is_apart w ≡ true → (eqb w (block_of c) ≡ false) × (related (graph_of table) w (block_of c) ≡ false)
    apart_parts w h =
        (let p : (not (eqb w (block_of c)) ≡ true) × (not (related (graph_of table) w (block_of c)) ≡ true) = and_parts (not (eqb w (block_of c))) _ h in
        (not-true (eqb w (block_of c)) p.0, not-true (related (graph_of table) w (block_of c)) p.1))

    first_same : is_first (ledger_of table k) set (block_of c) (carried_by c) ≡ is_first (ledger_of table k) (first_blocks n) (block_of c) (carried_by c)
    unfolding beside_in
    first_same = ap (λ (b : Bool). not b) (same_truth _ _ (moved set (first_blocks n) forth) (moved (first_blocks n) set back))
      where
        forth : (e : ℕ) → e < length k.rows → has set (block_of e) ≡ true → (row_at k.rows e).sound ≡ true → is_contested k (tx_of e) ≡ true → is_apart (block_of e) ≡ true
            → not (int_eq (virt (graph_of table) set (block_of c) (block_of e)) (negsuc 0)) ≡ true
            → (has (first_blocks n) (block_of e) ≡ true) × (virt (graph_of table) (first_blocks n) (block_of c) (block_of e) ≡ virt (graph_of table) set (block_of c) (block_of e))
        forth e le there valid rival apart stands =
            (let parts = apart_parts (block_of e) apart in
            elim (cases_lt (block_of e) n) [
              | inl less ↦ (first_in n (block_of e) less, stays e le less parts.1 parts.0)
              | inr ge ↦ absurd (no_new e le ge valid rival parts.1 parts.0 (not-true (is_before table (block_of c) (block_of e)) stands))
            ])

        back : (e : ℕ) → e < length k.rows → has (first_blocks n) (block_of e) ≡ true → (row_at k.rows e).sound ≡ true → is_contested k (tx_of e) ≡ true → is_apart (block_of e) ≡ true
            → not (int_eq (virt (graph_of table) (first_blocks n) (block_of c) (block_of e)) (negsuc 0)) ≡ true
            → (has set (block_of e) ≡ true) × (virt (graph_of table) set (block_of c) (block_of e) ≡ virt (graph_of table) (first_blocks n) (block_of c) (block_of e))
        back e le there valid _ apart _ =
            (let less : block_of e < n = of_first n (block_of e) there in
            let parts = apart_parts (block_of e) apart in
            (key_in table (block_of e) (omega (arith, less, few, blocks)), sym (stays e le less parts.1 parts.0)))

    abbrev accepted : ℕ → Payment → Bool
    accepted w u = accepts (ledger_of table k) (first_blocks n) w u

    pub unmoved : (flags : List Bool) → ((e : ℕ) → e < length k.rows → is_set flags e ≡ is_accepted_carrier table k n e) → is_set flags c ≡ is_next table k flags c
    unmoved flags right =
        right c lc
        ∙ ap (λ (b : Bool). b && accepted (block_of c) (carried_by c)) (lt-ltb (block_of c) n old)
        ∙ accepts_is (ledger_of table k) (first_blocks n) (block_of c) (carried_by c) (whole table k kept blocks order sound accepted c lc)
        ∙ ap (λ (b : Bool). is_sound (ledger_of table k) (block_of c) (carried_by c) && (has_sources (ledger_of table k) accepted (block_of c) (carried_by c) && (b && is_alone (ledger_of table k) accepted (block_of c) (carried_by c)))) (sym first_same)
        ∙ sym (next_is table k kept blocks order sound accepted flags c told lc)
      where
        told : (e : ℕ) → e < length k.rows → is_below table (block_of e) (block_of c) ≡ true → is_set flags e ≡ accepted (block_of e) (carried_by e)
        told e le under =
            let less : block_of e < block_of c =
            ancestors_lower table (block_of e) (block_of c) order (let b : block_of c < k.blocks = kept.inside c lc in omega (arith, b, blocks)) under in
            right e le ∙ ap (λ (b : Bool). b && accepted (block_of e) (carried_by e)) (lt-ltb (block_of e) n (omega (arith, less, old)))
