-- What each part of a block's format spells, and the whole.
use Rattle.std.proofs.Common.{◌≡◌, ℕ, ◌<◌, ◌≤◌, ◌^◌, Bool, true, false, not, eqb, leb, List, [], ◌∷◌, ◌++◌, length, Option, None, refl, sym, arith}
use Rattle.std.specs.List.{flat_map}
use Rattle.std.specs.Int.{w16, w64, to_le_bytes, from_le_bytes}
use Rattle.std.proofs.lemmas.Bool.{eqb-true, leb-true, le-leb}
use Rattle.std.proofs.lemmas.Nat.{le_bytes_2, le_bytes_8, from_le_bytes-to_le_bytes_2, from_le_bytes-to_le_bytes_8}
use Rattle.sp_form.specs.Bytes.{IsBytes}
use Rattle.sp_form.specs.Form.{Form, whole, bind, rule, first_broken, map_fault}
use Rattle.sp_form.specs.Turns.{InTurn}
use Rattle.sp_form.specs.Values.{byte}
use Rattle.sp_form.proofs.Simple.{one_byte, rule_met}
use Rattle.sp_form.proofs.Taking.{AreRows, bind_spelled, last_spelled, rows_spelled, said_so, Spelled, value_spelled}
use Rattle.sp_form.proofs.Faults.{ruled_spelled, map_fault_spelled}
use Rattle.sp_ids.specs.Digits.{bytes_of_number, length-bytes_of, number_of_bytes, number_of-bound}
use Rattle.sp_ids.specs.Key.{AreBytes, bytes_of, number_of}
use Rattle.sp_tx.specs.Format.{tx_form}
use Rattle.sp_tx.specs.Parts.{Transaction}
use Rattle.sp_tx.specs.Spelling.{IsTx, spelling}
use Rattle.sp_tx.proofs.Spelled.{tx_spelled}
use Rattle.sp_block.specs.declared.fault.BlockFault.{BlockFault}
use Rattle.sp_block.specs.declared.fault.BlockFault.TheVariants.{Short, Version, ParentCount, ParentOrder, TxCount, Tx, Grant, SameTx, SameOutpoint}
use Rattle.sp_block.specs.Format.{block_form, carried_form, carried_rules, fits_kind, has_known_id, is_above, last_parent, of_parts, parent_count_form, parent_form, Parts, parents_fit, parents_form, shares_outpoint, tx_count_form, txs_form, version_form, with_tx, word_form}
use Rattle.sp_block.specs.Spelling.{block_text, IsCarried, IsParent, MeetsRules}

-- ---- fields of the head

pub version_spelled : Spelled version_form (λ version. version ∷ []) (λ version. version ≡ 1)
version_spelled = value_spelled 1 Short byte (λ version. rule (eqb version 1) Version ∷ []) (λ version. version ∷ []) (λ version. version ≡ 1) (record {
  only = λ bytes size small met. (one_byte bytes size, eqb-true _ _ (rule_met (eqb (byte bytes) 1) Version None met).0);
  size = λ version m. refl;
  back = λ version m. refl;
  met = λ version m. rw m refl;
})

word_small : (bytes : List ℕ) → length bytes ≡ 8 → IsBytes bytes → from_le_bytes w64 bytes < 2 ^ 64
word_small bytes size small = omega (arith, small 0, small 1, small 2, small 3, small 4, small 5, small 6, small 7)

pub word_spelled : Spelled word_form (to_le_bytes w64) (λ word. word < 2 ^ 64)
word_spelled = value_spelled 8 Short (from_le_bytes w64) (λ word. []) (to_le_bytes w64) (λ word. word < 2 ^ 64) (record {
  only = λ bytes size small met. (le_bytes_8 bytes (from_le_bytes w64 bytes) size small refl, word_small bytes size small);
  size = λ word m. refl;
  back = λ word m. from_le_bytes-to_le_bytes_8 word m;
  met = λ word m. refl;
})

parent_count_spelled : (genesis : Bool) → Spelled (parent_count_form genesis) (λ count. count ∷ []) (λ count. parents_fit genesis count ≡ true)
parent_count_spelled genesis = value_spelled 1 Short byte (λ count. rule (parents_fit genesis count) ParentCount ∷ []) (λ count. count ∷ []) (λ count. parents_fit genesis count ≡ true) (record {
  only = λ bytes size small met. (one_byte bytes size, (rule_met (parents_fit genesis (byte bytes)) ParentCount None met).0);
  size = λ count m. refl;
  back = λ count m. refl;
  met = λ count m. rw m refl;
})

are_bytes : (bytes : List ℕ) → length bytes ≡ 32 → IsBytes bytes → AreBytes bytes
are_bytes bytes size small = record { long = size; small = λ k lt. small k }

pub parent_spelled : (before : Option ℕ) → Spelled (parent_form before) bytes_of (IsParent before)
parent_spelled before = value_spelled 32 Short number_of (λ id. rule (is_above before id) ParentOrder ∷ []) bytes_of (IsParent before) (record {
  only = λ bytes size small met.
      (bytes_of_number bytes (are_bytes bytes size small), record { id = number_of-bound bytes (are_bytes bytes size small); order = (rule_met (is_above before (number_of bytes)) ParentOrder None met).0 });
  size = λ id m. length-bytes_of id;
  back = λ id m. number_of_bytes id m.id;
  met = λ id m. rw m.order refl;
})

tx_count_spelled : Spelled tx_count_form (to_le_bytes w16) (λ count. count ≤ 256)
tx_count_spelled = value_spelled 2 Short (from_le_bytes w16) (λ count. rule (leb count 256) TxCount ∷ []) (to_le_bytes w16) (λ count. count ≤ 256) (record {
  only = λ bytes size small met. (le_bytes_2 bytes (from_le_bytes w16 bytes) size small refl, leb-true _ _ (rule_met (leb (from_le_bytes w16 bytes) 256) TxCount None met).0);
  size = λ count m. refl;
  back = λ count m. from_le_bytes-to_le_bytes_2 count (omega (arith, m));
  met = λ count m. rw (le-leb count 256 m) refl;
})

-- ---- transactions

not_true : (b : Bool) → not b ≡ true → b ≡ false
not_true true e = absurd cc
not_true false e = refl

kept_rules : (genesis : Bool) (earlier : List Transaction) (t : Transaction) → IsTx t × (first_broken (carried_rules genesis earlier t) ≡ None) → IsCarried genesis earlier t
kept_rules genesis earlier t h =
    let kind = rule_met (fits_kind genesis t) Grant (first_broken (rule (not (has_known_id earlier t)) SameTx ∷ rule (not (shares_outpoint earlier t)) SameOutpoint ∷ [])) h.1 in
    let id = rule_met (not (has_known_id earlier t)) SameTx (first_broken (rule (not (shares_outpoint earlier t)) SameOutpoint ∷ [])) kind.1 in
    let outpoints = rule_met (not (shares_outpoint earlier t)) SameOutpoint None id.1 in
    record { tx = h.0; kind = kind.0; new_id = not_true (has_known_id earlier t) id.0; new_outpoints = not_true (shares_outpoint earlier t) outpoints.0 }

pub carried_met : (genesis : Bool) (earlier : List Transaction) (t : Transaction) → IsCarried genesis earlier t → IsTx t × (first_broken (carried_rules genesis earlier t) ≡ None)
carried_met genesis earlier t h = (h.tx, rw (h.kind, h.new_id, h.new_outpoints) refl)

pub carried_spelled : (genesis : Bool) (earlier : List Transaction) → Spelled (carried_form genesis earlier) spelling (IsCarried genesis earlier)
unfolding carried_form
carried_spelled genesis earlier =
    said_so (carried_form genesis earlier) spelling (λ t. IsTx t × (first_broken (carried_rules genesis earlier t) ≡ None)) (IsCarried genesis earlier) (kept_rules genesis earlier) (carried_met genesis earlier)
    (ruled_spelled (map_fault Tx tx_form) Short (carried_rules genesis earlier) spelling IsTx (map_fault_spelled Tx tx_form spelling IsTx tx_spelled))

-- ---- the whole, from its end

module _ (genesis : Bool) where
  -- the parts of a block up to its transactions
  record Head (salt nonce : ℕ) (parents : List ℕ) (p : Parts) : Type 0 where
    pub salt_is : p.salt ≡ salt
    pub nonce_is : p.nonce ≡ nonce
    pub parents_are : p.parents ≡ parents

  remade : (salt nonce : ℕ) (parents : List ℕ) (p : Parts) → Head salt nonce parents p → of_parts salt nonce parents p.txs ≡ p
  remade salt nonce parents p h = rw (← h.salt_is, ← h.nonce_is, ← h.parents_are) refl

  abbrev CarriedInTurn : Parts → Type 0
  CarriedInTurn p = InTurn (IsCarried genesis) with_tx [] p.txs

  abbrev pub txs_text : Parts → List ℕ
  txs_text p = flat_map spelling p.txs

  abbrev last_step : ℕ → ℕ → List ℕ → ℕ → Form BlockFault Parts
  last_step salt nonce parents count = bind (txs_form genesis count) (λ txs. whole (of_parts salt nonce parents txs))

  behind_tx_count : (salt nonce : ℕ) (parents : List ℕ) (count : ℕ) → Spelled (last_step salt nonce parents count) txs_text (λ (p : Parts). (length p.txs ≡ count) × (Head salt nonce parents p × CarriedInTurn p))
  behind_tx_count salt nonce parents count =
      let last = last_spelled (txs_form genesis count) (of_parts salt nonce parents) (flat_map spelling) (AreRows (IsCarried genesis) with_tx count []) (Head salt nonce parents) (λ (p : Parts). p.txs)
      (λ txs. (refl, record { salt_is = refl; nonce_is = refl; parents_are = refl })) (remade salt nonce parents) (rows_spelled (carried_form genesis) with_tx spelling (IsCarried genesis) (carried_spelled genesis) count []) in
      said_so (last_step salt nonce parents count) txs_text (λ (p : Parts). Head salt nonce parents p × AreRows (IsCarried genesis) with_tx count [] p.txs) (λ (p : Parts). (length p.txs ≡ count) × (Head salt nonce parents p × CarriedInTurn p))
      (λ p h. (h.1.size, (h.0, h.1.in_turn))) (λ p h. (h.1.0, record { size = h.0; in_turn = h.1.1 })) last

  abbrev TxsMet : Parts → Type 0
  TxsMet p = (length p.txs ≤ 256) × CarriedInTurn p

  abbrev pub count_text : Parts → List ℕ
  count_text p = to_le_bytes w16 (length p.txs) ++ txs_text p

  abbrev behind_parents : ℕ → ℕ → List ℕ → Form BlockFault Parts
  behind_parents salt nonce parents = bind tx_count_form (last_step salt nonce parents)

  parents_known : (salt nonce : ℕ) (parents : List ℕ) → Spelled (behind_parents salt nonce parents) count_text (λ (p : Parts). (p.parents ≡ parents) × (((p.salt ≡ salt) × (p.nonce ≡ nonce)) × TxsMet p))
  parents_known salt nonce parents =
      let counted = bind_spelled tx_count_form (last_step salt nonce parents) (to_le_bytes w16) txs_text (λ count. count ≤ 256) (λ (p : Parts). Head salt nonce parents p × CarriedInTurn p) (λ (p : Parts). length p.txs) tx_count_spelled (λ count h. behind_tx_count salt nonce parents count) in
      said_so (behind_parents salt nonce parents) count_text (λ (p : Parts). (length p.txs ≤ 256) × (Head salt nonce parents p × CarriedInTurn p)) (λ (p : Parts). (p.parents ≡ parents) × (((p.salt ≡ salt) × (p.nonce ≡ nonce)) × TxsMet p))
      (λ p h. (h.1.0.parents_are, ((h.1.0.salt_is, h.1.0.nonce_is), (h.0, h.1.1)))) (λ p h. (h.1.1.0, (record { salt_is = h.1.0.0; nonce_is = h.1.0.1; parents_are = h.0 }, h.1.1.1))) counted

  abbrev pub parents_text : Parts → List ℕ
  parents_text p = flat_map bytes_of p.parents ++ count_text p

  abbrev behind_parent_count : ℕ → ℕ → ℕ → Form BlockFault Parts
  behind_parent_count salt nonce count = bind (parents_form count) (behind_parents salt nonce)

  abbrev ParentsInTurn : Parts → Type 0
  ParentsInTurn p = InTurn IsParent last_parent None p.parents

  count_known : (salt nonce count : ℕ) → Spelled (behind_parent_count salt nonce count) parents_text (λ (p : Parts). (length p.parents ≡ count) × (((p.salt ≡ salt) × (p.nonce ≡ nonce)) × (ParentsInTurn p × TxsMet p)))
  count_known salt nonce count =
      let rows = bind_spelled (parents_form count) (behind_parents salt nonce) (flat_map bytes_of) count_text (AreRows IsParent last_parent count None) (λ (p : Parts). ((p.salt ≡ salt) × (p.nonce ≡ nonce)) × TxsMet p) (λ (p : Parts). p.parents)
      (rows_spelled parent_form last_parent bytes_of IsParent parent_spelled count None) (λ parents h. parents_known salt nonce parents) in
      said_so (behind_parent_count salt nonce count) parents_text (λ (p : Parts). AreRows IsParent last_parent count None p.parents × (((p.salt ≡ salt) × (p.nonce ≡ nonce)) × TxsMet p)) (λ (p : Parts). (length p.parents ≡ count) × (((p.salt ≡ salt) × (p.nonce ≡ nonce)) × (ParentsInTurn p × TxsMet p)))
      (λ p h. (h.0.size, (h.1.0, (h.0.in_turn, h.1.1)))) (λ p h. (record { size = h.0; in_turn = h.1.1.0 }, (h.1.0, h.1.1.1))) rows

  abbrev ListsMet : Parts → Type 0
  ListsMet p = (parents_fit genesis (length p.parents) ≡ true) × (ParentsInTurn p × TxsMet p)

  abbrev pub lists_text : Parts → List ℕ
  lists_text p = length p.parents ∷ parents_text p

  abbrev behind_nonce : ℕ → ℕ → Form BlockFault Parts
  behind_nonce salt nonce = bind (parent_count_form genesis) (behind_parent_count salt nonce)

  nonce_known : (salt nonce : ℕ) → Spelled (behind_nonce salt nonce) lists_text (λ (p : Parts). (p.nonce ≡ nonce) × ((p.salt ≡ salt) × ListsMet p))
  nonce_known salt nonce =
      let counted = bind_spelled (parent_count_form genesis) (behind_parent_count salt nonce) (λ count. count ∷ []) parents_text (λ count. parents_fit genesis count ≡ true) (λ (p : Parts). ((p.salt ≡ salt) × (p.nonce ≡ nonce)) × (ParentsInTurn p × TxsMet p)) (λ (p : Parts). length p.parents)
      (parent_count_spelled genesis) (λ count h. count_known salt nonce count) in
      said_so (behind_nonce salt nonce) lists_text (λ (p : Parts). (parents_fit genesis (length p.parents) ≡ true) × (((p.salt ≡ salt) × (p.nonce ≡ nonce)) × (ParentsInTurn p × TxsMet p))) (λ (p : Parts). (p.nonce ≡ nonce) × ((p.salt ≡ salt) × ListsMet p))
      (λ p h. (h.1.0.1, (h.1.0.0, (h.0, h.1.1)))) (λ p h. (h.1.1.0, ((h.1.0, h.0), h.1.1.1))) counted

  abbrev behind_salt : ℕ → Form BlockFault Parts
  behind_salt salt = bind word_form (behind_nonce salt)

  abbrev pub nonce_text : Parts → List ℕ
  nonce_text p = to_le_bytes w64 p.nonce ++ lists_text p

  salt_known : (salt : ℕ) → Spelled (behind_salt salt) nonce_text (λ (p : Parts). (p.salt ≡ salt) × ((p.nonce < 2 ^ 64) × ListsMet p))
  salt_known salt =
      let nonce = bind_spelled word_form (behind_nonce salt) (to_le_bytes w64) lists_text (λ word. word < 2 ^ 64) (λ (p : Parts). (p.salt ≡ salt) × ListsMet p) (λ (p : Parts). p.nonce) word_spelled (λ nonce h. nonce_known salt nonce) in
      said_so (behind_salt salt) nonce_text (λ (p : Parts). (p.nonce < 2 ^ 64) × ((p.salt ≡ salt) × ListsMet p)) (λ (p : Parts). (p.salt ≡ salt) × ((p.nonce < 2 ^ 64) × ListsMet p))
      (λ p h. (h.1.0, (h.0, h.1.1))) (λ p h. (h.1.0, (h.0, h.1.1))) nonce

  abbrev pub salt_text : Parts → List ℕ
  salt_text p = to_le_bytes w64 p.salt ++ nonce_text p

  abbrev WordsMet : Parts → Type 0
  WordsMet p = (p.salt < 2 ^ 64) × ((p.nonce < 2 ^ 64) × ListsMet p)

  version_known : (version : ℕ) → version ≡ 1 → Spelled (bind word_form behind_salt) salt_text (λ (p : Parts). (1 ≡ version) × WordsMet p)
  version_known version e =
      let salt = bind_spelled word_form behind_salt (to_le_bytes w64) nonce_text (λ word. word < 2 ^ 64) (λ (p : Parts). (p.nonce < 2 ^ 64) × ListsMet p) (λ (p : Parts). p.salt) word_spelled (λ salt h. salt_known salt) in
      said_so (bind word_form behind_salt) salt_text WordsMet (λ (p : Parts). (1 ≡ version) × WordsMet p) (λ p h. (sym e, h)) (λ p h. h.1) salt

  pub block_spelled : Spelled (block_form genesis) block_text (MeetsRules genesis)
  unfolding block_form
  block_spelled =
      let all = bind_spelled version_form (λ version. bind word_form behind_salt) (λ version. version ∷ []) salt_text (λ version. version ≡ 1) WordsMet (λ (p : Parts). 1) version_spelled version_known in
      said_so (block_form genesis) block_text (λ (p : Parts). (1 ≡ 1) × WordsMet p) (MeetsRules genesis)
      (λ p h. record { salt = h.1.0; nonce = h.1.1.0; parent_count = h.1.1.1.0; parents = h.1.1.1.1.0; few_txs = h.1.1.1.1.1.0; txs = h.1.1.1.1.1.1 })
      (λ p h. (refl, (h.salt, (h.nonce, (h.parent_count, (h.parents, (h.few_txs, h.txs))))))) all
