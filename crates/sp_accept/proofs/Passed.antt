-- The whole pass, and what follows for transactions.
use Rattle.std.proofs.Common.{◌≡◌, ℕ, zero, suc, ◌+◌, ◌<◌, ◌≤◌, Bool, true, false, ◌&&◌, List, [], ◌∷◌, ◌++◌, map, length, refl, sym, ap, ◌∙◌, inl, inr, arith, eqb, add-one, length-append}
use Rattle.std.specs.List.{range_with_len}
use Rattle.std.specs.Prelude.{nat_lt}
use Rattle.std.proofs.lemmas.Bool.{and_from, and_parts, cases_lt, eqb-true, eq-eqb, lt-ltb, ltb-true}
use Rattle.std.proofs.lemmas.List.FromFn.{get_or-map-range_with_len, map-range_with_len_more, length-map-range_with_len}
use Rattle.sp_model.specs.Graph.{has, keys}
use Rattle.sp_model.proofs.Sets.{same_truth}
use Rattle.sp_dag.specs.Numbered.{Numbered, AreInOrder, graph_of}
use Rattle.sp_dag.proofs.Ranked.{keys_are_numbers}
use Rattle.sp_carry.specs.Payment.{Payment}
use Rattle.sp_carry.specs.Ledger.{Ledger, accepted_carriers, accepts}
use Rattle.sp_carry.specs.Carried.{AreSound, Carried, IsCarried, carriers_in, ledger_of}
use Rattle.sp_carry.proofs.Conflicts.{accepted_from, from_accepted}
use Rattle.sp_carry.proofs.Members.{IsIn, any_of_member, member_of_any}
use Rattle.sp_accept.specs.Acceptance.{Acceptance, first_blocks, is_accepted_carrier, is_accepted_tx, IsRight}
use Rattle.sp_accept.specs.Pass.{carried_flags, is_carried_flag, is_next, passed}
use Rattle.sp_accept.specs.Rows.{AreOf, payment_at, row_at}
use Rattle.sp_accept.proofs.Carriers.{AreRows, rows_are, carried_at, carries, one_number}
use Rattle.sp_carry.proofs.Acceptance.{accepts_is}
use Rattle.sp_carry.specs.Flags.{is_set}
use Rattle.sp_accept.proofs.Decided.{next_is, past_first, whole}
use Rattle.sp_accept.proofs.Numbers.{carrier_of, of_carrier}
use Rattle.sp_accept.proofs.StillRight.{first_in, of_first}

-- one more carrier
pub passed_more : (table : Numbered) (k : Carried) (flags seen new : List Bool) (now : Bool) (n : ℕ) → flags ≡ passed table k n
    → seen ≡ flags → now ≡ is_next table k seen n → new ≡ flags ++ now ∷ [] → new ≡ passed table k (n + 1)
unfolding passed
passed_more table k flags seen new now n e s f g = g ∙ rw (add-one n, f, s, e) refl

-- one more transaction
pub mapped_more : (f : ℕ → Bool) (flags new : List Bool) (now : Bool) (n : ℕ) → flags ≡ map f (range_with_len 0 n) → now ≡ f n → new ≡ flags ++ now ∷ []
    → new ≡ map f (range_with_len 0 (n + 1))
mapped_more f flags new now n e g h = h ∙ rw (map-range_with_len_more f 0 n n (omega arith), e, g) refl

flag_before : (flags : List Bool) (f : Bool) (d : ℕ) → d < length flags → is_set (flags ++ f ∷ []) d ≡ is_set flags d
flag_before [] f d lt = absurd (omega (arith, lt))
flag_before (x ∷ xs) f zero lt = refl
flag_before (x ∷ xs) f (suc d) lt = flag_before xs f d (omega (arith, lt))

flag_last : (flags : List Bool) (f : Bool) → is_set (flags ++ f ∷ []) (length flags) ≡ f
flag_last [] f = refl
flag_last (x ∷ xs) f = flag_last xs f

-- the flags of the first n carriers say what the definition says, where all blocks are the set
pub record AreDecided (table : Numbered) (k : Carried) (flags : List Bool) (n : ℕ) : Type 0 where
  pub long : length flags ≡ n
  pub each : (c : ℕ) → c < n
      → is_set flags c ≡ accepts (ledger_of table k) (keys (graph_of table)) (row_at k.rows c).block (payment_at k (row_at k.rows c).tx)

module _ (table : Numbered) (k : Carried) (kept : AreRows k) (blocks : length table.parents ≡ k.blocks) (order : AreInOrder table.parents) (sound : AreSound table k) where
  abbrev ledger : Ledger
  ledger = ledger_of table k

  abbrev set : List ℕ
  set = keys (graph_of table)

  abbrev decision : ℕ → Bool
  decision c = accepts ledger set (row_at k.rows c).block (payment_at k (row_at k.rows c).tx)

  -- what the flags below a carrier give for it
  pub decision_is : (flags : List Bool) (n : ℕ) → ((c : ℕ) → c < n → is_set flags c ≡ decision c) → n < length k.rows → is_next table k flags n ≡ decision n
  decision_is flags n told ln =
      next_is table k kept blocks order sound (λ w u. accepts ledger set w u) flags n
      (λ c lc under. told c (past_first table k kept blocks order sound (λ w u. accepts ledger set w u) c n lc ln under)) ln
      ∙ sym (accepts_is ledger set (row_at k.rows n).block (payment_at k (row_at k.rows n).tx) (whole table k kept blocks order sound (λ w u. accepts ledger set w u) n ln))

  decided_more : (flags : List Bool) (n : ℕ) → AreDecided table k flags n → n < length k.rows → AreDecided table k (flags ++ is_next table k flags n ∷ []) (suc n)
  decided_more flags n d ln = record {
    long = (let l : length (flags ++ is_next table k flags n ∷ []) ≡ length flags + 1 = length-append flags (is_next table k flags n ∷ []) in omega (arith, l, d.long));
    each = λ c lt. at c lt;
  }
    where
      at : (c : ℕ) → c < suc n → is_set (flags ++ is_next table k flags n ∷ []) c ≡ decision c
      at c lt =
          elim (cases_lt c n) [
            | inl less ↦ flag_before flags (is_next table k flags n) c (omega (arith, less, d.long)) ∙ d.each c less
            | inr ge ↦ (let e : c ≡ length flags = omega (arith, ge, lt, d.long) in
                let f : n ≡ c = omega (arith, ge, lt) in
                ap (is_set (flags ++ is_next table k flags n ∷ [])) e
                ∙ flag_last flags (is_next table k flags n)
                ∙ decision_is flags n d.each ln
                ∙ ap decision f)
          ]

  pub all_decided : (n : ℕ) → n ≤ length k.rows → AreDecided table k (passed table k n) n
  unfolding passed
  all_decided zero le = record { long = refl; each = λ c lt. absurd (omega (arith, lt)) }
  all_decided (suc n) le = decided_more (passed table k n) n (all_decided n (omega (arith, le))) (omega (arith, le))

  -- a transaction is accepted where a carrier of it has its flag, the first n blocks being the set
  pub tx_is : (flags : List Bool) (n t : ℕ) → ((c : ℕ) → c < length k.rows → is_set flags c ≡ is_accepted_carrier table k n c) → t < length k.txs
      → is_carried_flag k flags t ≡ is_accepted_tx table k n t
  tx_is flags n t d lt = same_truth _ _ forth back
    where
      forth : is_carried_flag k flags t ≡ true → is_accepted_tx table k n t ≡ true
      forth h =
          let c : (c : ℕ) × IsIn (carriers_in k.rows t) c × (is_set flags c ≡ true) = member_of_any (is_set flags) (carriers_in k.rows t) h in
          let p : (c.0 < length k.rows) × ((row_at k.rows c.0).tx ≡ t) = carrier_of k.rows t c.0 c.1 in
          let q : (nat_lt (row_at k.rows c.0).block n ≡ true) × (accepts ledger (first_blocks n) (row_at k.rows c.0).block (payment_at k (row_at k.rows c.0).tx) ≡ true) =
          and_parts (nat_lt (row_at k.rows c.0).block n) _ (sym (d c.0 p.0) ∙ c.2) in
          any_of_member (λ (u : Payment). eqb u.id (payment_at k t).id) (accepted_carriers ledger (first_blocks n)) (payment_at k (row_at k.rows c.0).tx)
          (from_accepted ledger (first_blocks n) (row_at k.rows c.0).block (payment_at k (row_at k.rows c.0).tx)
          (first_in n (row_at k.rows c.0).block (ltb-true (row_at k.rows c.0).block n q.0)) (carries k kept c.0 p.0) q.1)
          (eq-eqb _ _ (ap (λ (m : ℕ). (payment_at k m).id) p.1))

      back : is_accepted_tx table k n t ≡ true → is_carried_flag k flags t ≡ true
      back h =
          let u : (u : Payment) × IsIn (accepted_carriers ledger (first_blocks n)) u × (eqb u.id (payment_at k t).id ≡ true) =
          member_of_any (λ (u : Payment). eqb u.id (payment_at k t).id) (accepted_carriers ledger (first_blocks n)) h in
          let a : (z : ℕ) × (has (first_blocks n) z ≡ true) × IsIn (ledger.txs z) u.0 × (accepts ledger (first_blocks n) z u.0 ≡ true) = accepted_from ledger (first_blocks n) u.0 u.1 in
          let c : (c : ℕ) × (c < length k.rows) × ((row_at k.rows c).block ≡ a.0) × (payment_at k (row_at k.rows c).tx ≡ u.0) = carried_at k kept a.0 u.0 a.2 in
          let same : (row_at k.rows c.0).tx ≡ t =
          one_number k kept (row_at k.rows c.0).tx t (kept.known c.0 c.1) lt (ap (λ (u : Payment). u.id) c.3 ∙ eqb-true _ _ u.2) in
          any_of_member (is_set flags) (carriers_in k.rows t) c.0 (of_carrier k.rows t c.0 c.1 same)
          (d c.0 c.1
          ∙ and_from (nat_lt (row_at k.rows c.0).block n) (accepts ledger (first_blocks n) (row_at k.rows c.0).block (payment_at k (row_at k.rows c.0).tx))
          (ap (λ (z : ℕ). nat_lt z n) c.2 ∙ lt-ltb a.0 n (of_first n a.0 a.1))
          (ap (λ (w : ℕ). accepts ledger (first_blocks n) w (payment_at k (row_at k.rows c.0).tx)) c.2 ∙ ap (accepts ledger (first_blocks n) a.0) c.3 ∙ a.3))

  -- ---- the flags of the pass are right

  set_is : (n : ℕ) → n ≡ k.blocks → set ≡ first_blocks n
  set_is n e = keys_are_numbers table ∙ ap (range_with_len 0) (blocks ∙ sym e)

  -- flags that say what the definition says are right
  pub right_by : (a : Acceptance) → a.blocks ≡ k.blocks → length a.carriers ≤ length k.rows
      → ((c : ℕ) → c < length k.rows → is_set a.carriers c ≡ decision c) → length a.txs ≤ length k.txs
      → ((t : ℕ) → t < length k.txs → is_set a.txs t ≡ is_carried_flag k a.carriers t) → IsRight table k a
  right_by a n few d few_txs txs = record {
    few = omega (arith, n);
    carriers = λ c lt. carrier c lt;
    no_more = few;
    txs = λ t lt. txs t lt ∙ tx_is a.carriers a.blocks t carrier lt;
    no_more_txs = few_txs;
  }
    where
      carrier : (c : ℕ) → c < length k.rows → is_set a.carriers c ≡ is_accepted_carrier table k a.blocks c
      carrier c lt =
          let less : (row_at k.rows c).block < a.blocks = (let b : (row_at k.rows c).block < k.blocks = kept.inside c lt in omega (arith, b, n)) in
          d c lt
          ∙ ap (λ (s : List ℕ). accepts ledger s (row_at k.rows c).block (payment_at k (row_at k.rows c).tx)) (set_is a.blocks n)
          ∙ ap (λ (b : Bool). b && accepts ledger (first_blocks a.blocks) (row_at k.rows c).block (payment_at k (row_at k.rows c).tx)) (sym (lt-ltb (row_at k.rows c).block a.blocks less))

  right : (a : Acceptance) → a.blocks ≡ k.blocks → a.carriers ≡ passed table k (length k.rows) → a.txs ≡ carried_flags k a.carriers → IsRight table k a
  right a n flags txs =
      right_by a n (omega (arith, ap length flags, d.long)) (λ c lt. ap (λ (fs : List Bool). is_set fs c) flags ∙ d.each c lt)
      (omega (arith, ap length txs, length-map-range_with_len (is_carried_flag k a.carriers) 0 (length k.txs)))
      (λ t lt. ap (λ (fs : List Bool). is_set fs t) txs
      ∙ get_or-map-range_with_len (is_carried_flag k a.carriers) 0 (length k.txs) t t false lt (omega arith))
    where
      d : AreDecided table k (passed table k (length k.rows)) (length k.rows)
      d = all_decided (length k.rows) (omega arith)

pub right_from : (table : Numbered) (k : Carried) (a : Acceptance) → IsCarried k → AreOf table k → a.blocks ≡ k.blocks
    → a.carriers ≡ passed table k (length k.rows) → a.txs ≡ carried_flags k a.carriers → IsRight table k a
right_from table k a kept of = right table k (rows_are k kept) of.long of.order of.sound a
