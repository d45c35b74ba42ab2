-- What is written of bytes is bytes: the texts of transactions and of blocks.
use Rattle.std.proofs.Common.{◌≡◌, ℕ, zero, suc, ◌/◌, ◌^◌, ◌<◌, ◌≤◌, List, [], ◌∷◌, ◌++◌, length, inl, inr, refl, ap, ◌∙◌, arith}
use Rattle.std.specs.Prelude.{nat_le}
use Rattle.std.specs.Int.{byte_at, bytes_low_first, to_le_bytes, w16, w64}
use Rattle.std.specs.List.{AllByRecursion, flat_map}
use Rattle.std.specs.Ordering.{is_lt}
use Rattle.std.proofs.lemmas.Bool.{cases_Bool}
use Rattle.std.proofs.lemmas.Nat.{mod_below}
use Rattle.sp_ids.specs.Digits.{bytes_of-small}
use Rattle.sp_ids.specs.Key.{bytes_of}
use Rattle.sp_ids.specs.Outpoints.{outpoint_cmp}
use Rattle.sp_form.specs.Bytes.{IsBytes}
use Rattle.sp_tx.specs.declared.parts.Input.{Input}
use Rattle.sp_tx.specs.declared.parts.Output.{Output}
use Rattle.sp_tx.specs.Parts.{of_parts, Transaction}
use Rattle.sp_tx.specs.Spelling.{input_text, outpoint_text, output_text, preimage_text, spelling}
use Rattle.sp_block.specs.Ascending.{ascending, put_in}
use Rattle.sp_block.specs.Format.{Parts}
use Rattle.sp_block.specs.Spelling.{block_text}
use Rattle.sp_play.specs.Judging.{by_outpoint, put_input}

-- ---- bytes

pub bytes_nil : IsBytes []
bytes_nil place = omega arith

pub bytes_cons : (x : ℕ) (xs : List ℕ) → x < 256 → IsBytes xs → IsBytes (x ∷ xs)
bytes_cons x xs h hs zero = h
bytes_cons x xs h hs (suc place) = hs place

bytes_append : (a b : List ℕ) → IsBytes a → IsBytes b → IsBytes (a ++ b)
bytes_append [] b ha hb = hb
bytes_append (x ∷ a) b ha hb = bytes_cons x (a ++ b) (ha 0) (bytes_append a b (λ place. ha (suc place)) hb)

bytes_flat_map : {A : Type 0} (text : A → List ℕ) (xs : List A) → AllByRecursion (λ x. IsBytes (text x)) xs → IsBytes (flat_map text xs)
bytes_flat_map text [] all = bytes_nil
bytes_flat_map text (x ∷ xs) all = bytes_append (text x) (flat_map text xs) all.0 (bytes_flat_map text xs all.1)

-- where each text is bytes
bytes_each : {A : Type 0} (text : A → List ℕ) → ((x : A) → IsBytes (text x)) → (xs : List A) → IsBytes (flat_map text xs)
bytes_each text h [] = bytes_nil
bytes_each text h (x ∷ xs) = bytes_append (text x) (flat_map text xs) (h x) (bytes_each text h xs)

-- the bytes of a number, however high it is
byte_below : (place n : ℕ) → byte_at place n < 256
byte_below zero n = omega arith
byte_below (suc place) n = mod_below (n / 256 ^ suc place) 256 (omega arith)

low_bytes : (place count n : ℕ) → IsBytes (bytes_low_first place count n)
low_bytes place zero n = bytes_nil
low_bytes place (suc count) n = bytes_cons (byte_at place n) (bytes_low_first (suc place) count n) (byte_below place n) (low_bytes (suc place) count n)

-- ---- transactions

-- a word that locks or opens
pub record IsKey (word : List ℕ) : Type 0 where
  pub bytes : IsBytes word
  pub short : length word ≤ 64

pub record IsSpend (input : Input) : Type 0 where
  pub index : input.from.index < 256
  pub key : IsKey input.preimage

input_bytes : (input : Input) → IsSpend input → IsBytes (input_text input)
input_bytes input h =
    let from = bytes_append (bytes_of input.from.tx) (input.from.index ∷ []) (bytes_of-small input.from.tx) (bytes_cons input.from.index [] h.index bytes_nil) in
    let preimage = bytes_cons (length input.preimage) input.preimage (omega (arith, h.key.short)) h.key.bytes in
    bytes_append (outpoint_text input.from) (preimage_text input.preimage) from preimage

inputs_bytes : (inputs : List Input) → AllByRecursion IsSpend inputs → AllByRecursion (λ (input : Input). IsBytes (input_text input)) inputs
inputs_bytes [] all = tt
inputs_bytes (input ∷ inputs) all = (input_bytes input all.0, inputs_bytes inputs all.1)

output_bytes : (output : Output) → IsBytes (output_text output)
output_bytes output = bytes_append (to_le_bytes w64 output.amount) (bytes_of output.lock) (low_bytes 0 8 output.amount) (bytes_of-small output.lock)

-- the inputs in another order
put_spends : (x : Input) (ys : List Input) → IsSpend x → AllByRecursion IsSpend ys → AllByRecursion IsSpend (put_input x ys)
put_spends x [] h all = (h, tt)
put_spends x (y ∷ ys) h all = elim (cases_Bool (is_lt (outpoint_cmp y.from x.from))) [
  | inl e ↦ rw e (all.0, put_spends x ys h all.1)
  | inr e ↦ rw e (h, all)
]

sorted_spends : (xs : List Input) → AllByRecursion IsSpend xs → AllByRecursion IsSpend (by_outpoint xs)
unfolding by_outpoint
sorted_spends [] all = tt
sorted_spends (x ∷ xs) all = put_spends x (by_outpoint xs) all.0 (sorted_spends xs all.1)

length-put_input : (x : Input) (ys : List Input) → length (put_input x ys) ≡ suc (length ys)
length-put_input x [] = refl
length-put_input x (y ∷ ys) = elim (cases_Bool (is_lt (outpoint_cmp y.from x.from))) [
  | inl e ↦ rw e (ap suc (length-put_input x ys))
  | inr e ↦ rw e refl
]

length-by_outpoint : (xs : List Input) → length (by_outpoint xs) ≡ length xs
unfolding by_outpoint
length-by_outpoint [] = refl
length-by_outpoint (x ∷ xs) = length-put_input x (by_outpoint xs) ∙ ap suc (length-by_outpoint xs)

pub tx_bytes : (inputs : List Input) (outputs : List Output) → length inputs < 256 → length outputs < 256 → AllByRecursion IsSpend inputs → IsBytes (spelling (of_parts (by_outpoint inputs) outputs))
tx_bytes inputs outputs few_inputs few_outputs all =
    let behind : List ℕ = length outputs ∷ flat_map output_text outputs in
    let spends : List ℕ = flat_map input_text (by_outpoint inputs) in
    let pays : IsBytes behind = bytes_cons (length outputs) (flat_map output_text outputs) few_outputs (bytes_each output_text output_bytes outputs) in
    let opens : IsBytes spends = bytes_flat_map input_text (by_outpoint inputs) (inputs_bytes (by_outpoint inputs) (sorted_spends inputs all)) in
    bytes_cons (length (by_outpoint inputs)) (spends ++ behind) (omega (arith, length-by_outpoint inputs, few_inputs)) (bytes_append spends behind opens pays)

-- ---- blocks

length-put_in : (x : ℕ) (ys : List ℕ) → length (put_in x ys) ≡ suc (length ys)
length-put_in x [] = refl
length-put_in x (y ∷ ys) = elim (cases_Bool (nat_le x y)) [
  | inl e ↦ rw e refl
  | inr e ↦ rw e (ap suc (length-put_in x ys))
]

pub length-ascending : (xs : List ℕ) → length (ascending xs) ≡ length xs
unfolding ascending
length-ascending [] = refl
length-ascending (x ∷ xs) = length-put_in x (ascending xs) ∙ ap suc (length-ascending xs)

pub block_bytes : (p : Parts) → length p.parents < 256 → AllByRecursion (λ (t : Transaction). IsBytes (spelling t)) p.txs → IsBytes (block_text p)
block_bytes p few all =
    let count : List ℕ = to_le_bytes w16 (length p.txs) in
    let txs : List ℕ = count ++ flat_map spelling p.txs in
    let ids : List ℕ = flat_map bytes_of p.parents ++ txs in
    let nonce : List ℕ = to_le_bytes w64 p.nonce ++ (length p.parents ∷ ids) in
    let in_txs : IsBytes txs = bytes_append count (flat_map spelling p.txs) (low_bytes 0 2 (length p.txs)) (bytes_flat_map spelling p.txs all) in
    let in_ids : IsBytes ids = bytes_append (flat_map bytes_of p.parents) txs (bytes_each bytes_of bytes_of-small p.parents) in_txs in
    let in_nonce : IsBytes nonce = bytes_append (to_le_bytes w64 p.nonce) (length p.parents ∷ ids) (low_bytes 0 8 p.nonce) (bytes_cons (length p.parents) ids few in_ids) in
    bytes_cons 1 (to_le_bytes w64 p.salt ++ nonce) (omega arith) (bytes_append (to_le_bytes w64 p.salt) nonce (low_bytes 0 8 p.salt) in_nonce)
