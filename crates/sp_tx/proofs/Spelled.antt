-- What each part of a transaction's format spells, and the whole.
use Rattle.std.proofs.Common.{◌≡◌, ℕ, ◌+◌, ◌<◌, ◌≤◌, ◌^◌, true, ltb, leb, List, [], ◌∷◌, ◌++◌, length, take, Option, None, refl, sym, subst, ◌∙◌, arith, slice_index}
use Rattle.std.specs.List.{flat_map}
use Rattle.std.specs.Int.{w64, to_le_bytes, from_le_bytes}
use Rattle.std.proofs.lemmas.Bool.{ltb-true, leb-true, le-leb, lt-ltb}
use Rattle.std.proofs.lemmas.List.{take_at, length-append, length-take, take_more, take_all, get_or_at}
use Rattle.std.proofs.lemmas.Nat.{le_bytes_8, from_le_bytes-to_le_bytes_8}
use Rattle.sp_form.specs.Bytes.{IsBytes}
use Rattle.sp_form.specs.Form.{Form, whole, bind, rule, first_broken}
use Rattle.sp_form.specs.Turns.{InTurn}
use Rattle.sp_form.specs.Values.{bytes_form, count_form}
use Rattle.sp_form.proofs.Simple.{bytes_spelled, count_spelled, rule_met, Within}
use Rattle.sp_form.proofs.Taking.{AreRows, bind_spelled, IsBytes-append_left, last_spelled, rows_spelled, said_so, Spelled, value_spelled}
use Rattle.sp_ids.specs.Digits.{bytes_of_number, length-bytes_of, number_of_bytes, number_of-bound}
use Rattle.sp_ids.specs.Key.{AreBytes, bytes_of, number_of}
use Rattle.sp_ids.specs.declared.outpoint.Outpoint.{Outpoint}
use Rattle.sp_tx.specs.declared.parts.Input.{Input}
use Rattle.sp_tx.specs.declared.parts.Output.{Output}
use Rattle.sp_tx.specs.declared.fault.TxFault.{TxFault}
use Rattle.sp_tx.specs.declared.fault.TxFault.TheVariants.{Short, InputCount, InputOrder, PreimageLength, OutputCount, Amount, Sum}
use Rattle.sp_tx.specs.Format.{amount_form, input_form, inputs_form, last_outpoint, lock_form, outpoint_form, outpoint_of, output_form, outputs_form, preimage_form, sum_so_far, tx_form}
use Rattle.sp_tx.specs.Parts.{is_next, of_parts, Transaction}
use Rattle.sp_tx.specs.Spelling.{input_text, IsInput, IsOutput, IsTx, outpoint_text, output_text, preimage_text, spelling}

-- ---- ids

are_bytes : (bytes : List ℕ) → length bytes ≡ 32 → IsBytes bytes → AreBytes bytes
are_bytes bytes size small = record { long = size; small = λ k lt. small k }

-- ---- outpoints

split_33 : (bytes : List ℕ) → length bytes ≡ 33 → bytes ≡ take 32 bytes ++ slice_index bytes 32 ∷ []
split_33 bytes e = sym (take_all 33 bytes (omega (arith, e))) ∙ take_more bytes 32 0 (omega (arith, e))

id_of_33 : (bytes : List ℕ) → length bytes ≡ 33 → IsBytes bytes → AreBytes (take 32 bytes)
id_of_33 bytes size small =
    let id : IsBytes (take 32 bytes) = IsBytes-append_left (take 32 bytes) (slice_index bytes 32 ∷ []) (subst IsBytes (split_33 bytes size) small) in
    are_bytes (take 32 bytes) (omega (arith, length-take 32 bytes, size)) id

pub record IsNext (before : Option Outpoint) (outpoint : Outpoint) : Type 0 where
  pub id : outpoint.tx < 2 ^ 256
  pub order : is_next before outpoint ≡ true

pub outpoint_size : (o : Outpoint) → length (outpoint_text o) ≡ 33
outpoint_size o = omega (arith, length-append (bytes_of o.tx) (o.index ∷ []), length-bytes_of o.tx)

pub outpoint_back : (o : Outpoint) → o.tx < 2 ^ 256 → outpoint_of (outpoint_text o) ≡ o
outpoint_back o small =
    let id : take 32 (bytes_of o.tx ++ o.index ∷ []) ≡ bytes_of o.tx = take_at (bytes_of o.tx) (o.index ∷ []) 32 (length-bytes_of o.tx) in
    let index : slice_index (bytes_of o.tx ++ o.index ∷ []) 32 ≡ o.index = get_or_at (bytes_of o.tx) o.index [] 0 32 (length-bytes_of o.tx) in
    rw (id, index, number_of_bytes o.tx small) refl

outpoint_text_of : (bytes : List ℕ) → length bytes ≡ 33 → IsBytes bytes → outpoint_text (outpoint_of bytes) ≡ bytes
outpoint_text_of bytes size small = rw (bytes_of_number (take 32 bytes) (id_of_33 bytes size small)) (sym (split_33 bytes size))

pub outpoint_spelled : (before : Option Outpoint) → Spelled (outpoint_form before) outpoint_text (IsNext before)
outpoint_spelled before = value_spelled 33 Short outpoint_of (λ outpoint. rule (is_next before outpoint) InputOrder ∷ []) outpoint_text (IsNext before) (record {
  only = λ bytes size small met.
      (outpoint_text_of bytes size small, record { id = number_of-bound (take 32 bytes) (id_of_33 bytes size small); order = (rule_met (is_next before (outpoint_of bytes)) InputOrder None met).0 });
  size = λ o m. outpoint_size o;
  back = λ o m. outpoint_back o m.id;
  met = λ o m. rw m.order refl;
})

-- ---- inputs

pub preimage_spelled : Spelled preimage_form preimage_text (λ preimage. Within 1 64 (length preimage) × Unit {0})
unfolding preimage_form
preimage_spelled = bind_spelled (count_form Short 1 64 PreimageLength) (λ size. bytes_form size Short) (λ n. n ∷ []) (λ preimage. preimage) (Within 1 64) (λ preimage. Unit {0}) length (count_spelled Short 1 64 PreimageLength)
    (λ n m. said_so (bytes_form n Short) (λ b. b) (λ b. length b ≡ n) (λ b. (length b ≡ n) × Unit {0}) (λ b h. (h, tt)) (λ b h. h.0) (bytes_spelled n Short))

unfoldable pub made_input : Outpoint → List ℕ → Input
made_input from preimage = record { from = from; preimage = preimage }

remade_input : (from : Outpoint) (input : Input) → input.from ≡ from → made_input from input.preimage ≡ input
unfolding made_input
remade_input from input e = rw (← e) refl

pub input_spelled : (before : Option Outpoint) → Spelled (input_form before) input_text (IsInput before)
unfolding input_form made_input
input_spelled before =
    let preimages = λ (preimage : List ℕ). Within 1 64 (length preimage) × Unit {0} in
    let parts = bind_spelled (outpoint_form before) (λ from. bind preimage_form (λ preimage. whole (made_input from preimage))) outpoint_text (λ (input : Input). preimage_text input.preimage) (IsNext before) (λ (input : Input). preimages input.preimage) (λ (input : Input). input.from) (outpoint_spelled before)
    (λ from m. last_spelled preimage_form (made_input from) preimage_text preimages (λ (input : Input). input.from ≡ from) (λ (input : Input). input.preimage) (λ preimage. (refl, refl)) (remade_input from) preimage_spelled) in
    said_so (input_form before) input_text (λ (input : Input). IsNext before input.from × preimages input.preimage) (IsInput before)
    (λ input h. record { id = h.0.id; order = h.0.order; some_preimage = h.1.0.low; short_preimage = h.1.0.high })
    (λ input h. (record { id = h.id; order = h.order }, (record { low = h.some_preimage; high = h.short_preimage }, tt))) parts

-- ---- outputs

pub record IsAmount (before amount : ℕ) : Type 0 where
  pub some : 1 ≤ amount
  pub sum : before + amount < 2 ^ 63

pub amount_spelled : (before : ℕ) → Spelled (amount_form before) (to_le_bytes w64) (IsAmount before)
amount_spelled before = value_spelled 8 Short (from_le_bytes w64) (λ amount. rule (leb 1 amount) Amount ∷ rule (ltb (before + amount) (2 ^ 63)) Sum ∷ []) (to_le_bytes w64) (IsAmount before) (record {
  only = λ bytes size small met.
      let some = rule_met (leb 1 (from_le_bytes w64 bytes)) Amount (first_broken (rule (ltb (before + from_le_bytes w64 bytes) (2 ^ 63)) Sum ∷ [])) met in
      let sum = rule_met (ltb (before + from_le_bytes w64 bytes) (2 ^ 63)) Sum None some.1 in
      (le_bytes_8 bytes (from_le_bytes w64 bytes) size small refl, record { some = leb-true _ _ some.0; sum = ltb-true _ _ sum.0 });
  size = λ amount m. refl;
  back = λ amount m. from_le_bytes-to_le_bytes_8 amount (let h = m.sum in omega arith);
  met = λ amount m. rw (le-leb 1 amount m.some, lt-ltb (before + amount) (2 ^ 63) m.sum) refl;
})

pub lock_spelled : Spelled lock_form bytes_of (λ lock. lock < 2 ^ 256)
lock_spelled = value_spelled 32 Short number_of (λ lock. []) bytes_of (λ lock. lock < 2 ^ 256) (record {
  only = λ bytes size small met. (bytes_of_number bytes (are_bytes bytes size small), number_of-bound bytes (are_bytes bytes size small));
  size = λ lock m. length-bytes_of lock;
  back = λ lock m. number_of_bytes lock m;
  met = λ lock m. refl;
})

unfoldable pub made_output : ℕ → ℕ → Output
made_output amount lock = record { amount = amount; lock = lock }

remade_output : (amount : ℕ) (output : Output) → output.amount ≡ amount → made_output amount output.lock ≡ output
unfolding made_output
remade_output amount output e = rw (← e) refl

pub output_spelled : (before : ℕ) → Spelled (output_form before) output_text (IsOutput before)
unfolding output_form made_output
output_spelled before =
    let parts = bind_spelled (amount_form before) (λ amount. bind lock_form (λ lock. whole (made_output amount lock))) (to_le_bytes w64) (λ (output : Output). bytes_of output.lock) (IsAmount before) (λ (output : Output). output.lock < 2 ^ 256) (λ (output : Output). output.amount) (amount_spelled before)
    (λ amount m. last_spelled lock_form (made_output amount) bytes_of (λ lock. lock < 2 ^ 256) (λ (output : Output). output.amount ≡ amount) (λ (output : Output). output.lock) (λ lock. (refl, refl)) (remade_output amount) lock_spelled) in
    said_so (output_form before) output_text (λ (output : Output). IsAmount before output.amount × (output.lock < 2 ^ 256)) (IsOutput before)
    (λ output h. record { amount = h.0.some; sum = h.0.sum; lock = h.1 })
    (λ output h. (record { some = h.amount; sum = h.sum }, h.lock)) parts

-- ---- the whole

remade_tx : (inputs : List Input) (t : Transaction) → t.inputs ≡ inputs → of_parts inputs t.outputs ≡ t
remade_tx inputs t e = rw (← e) refl

abbrev OutputsMet : Transaction → Type 0
OutputsMet t = Within 1 16 (length t.outputs) × InTurn IsOutput sum_so_far 0 t.outputs

behind_output_count : (inputs : List Input) (m : ℕ) → Spelled (bind (outputs_form m) (λ outputs. whole (of_parts inputs outputs))) (λ (t : Transaction). flat_map output_text t.outputs) (λ (t : Transaction). (length t.outputs ≡ m) × ((t.inputs ≡ inputs) × InTurn IsOutput sum_so_far 0 t.outputs))
behind_output_count inputs m =
    let last = last_spelled (outputs_form m) (of_parts inputs) (flat_map output_text) (AreRows IsOutput sum_so_far m 0) (λ (t : Transaction). t.inputs ≡ inputs) (λ (t : Transaction). t.outputs) (λ outputs. (refl, refl)) (remade_tx inputs) (rows_spelled output_form sum_so_far output_text IsOutput output_spelled m 0) in
    said_so (bind (outputs_form m) (λ outputs. whole (of_parts inputs outputs))) (λ (t : Transaction). flat_map output_text t.outputs) (λ (t : Transaction). (t.inputs ≡ inputs) × AreRows IsOutput sum_so_far m 0 t.outputs) (λ (t : Transaction). (length t.outputs ≡ m) × ((t.inputs ≡ inputs) × InTurn IsOutput sum_so_far 0 t.outputs))
    (λ t h. (h.1.size, (h.0, h.1.in_turn))) (λ t h. (h.1.0, record { size = h.0; in_turn = h.1.1 })) last

abbrev outputs_text : Transaction → List ℕ
outputs_text t = length t.outputs ∷ flat_map output_text t.outputs

abbrev pub behind_inputs : List Input → Form TxFault Transaction
behind_inputs inputs = bind (count_form Short 1 16 OutputCount) (λ m. bind (outputs_form m) (λ outputs. whole (of_parts inputs outputs)))

pub inputs_known : (inputs : List Input) → Spelled (behind_inputs inputs) outputs_text (λ (t : Transaction). (t.inputs ≡ inputs) × OutputsMet t)
inputs_known inputs =
    let counted = bind_spelled (count_form Short 1 16 OutputCount) (λ m. bind (outputs_form m) (λ outputs. whole (of_parts inputs outputs))) (λ n. n ∷ []) (λ (t : Transaction). flat_map output_text t.outputs) (Within 1 16) (λ (t : Transaction). (t.inputs ≡ inputs) × InTurn IsOutput sum_so_far 0 t.outputs) (λ (t : Transaction). length t.outputs) (count_spelled Short 1 16 OutputCount)
    (λ m h. behind_output_count inputs m) in
    said_so (behind_inputs inputs) outputs_text (λ (t : Transaction). Within 1 16 (length t.outputs) × ((t.inputs ≡ inputs) × InTurn IsOutput sum_so_far 0 t.outputs)) (λ (t : Transaction). (t.inputs ≡ inputs) × OutputsMet t)
    (λ t h. (h.1.0, (h.0, h.1.1))) (λ t h. (h.1.0, (h.0, h.1.1))) counted

abbrev parts_text : Transaction → List ℕ
parts_text t = flat_map input_text t.inputs ++ outputs_text t

behind_input_count : (n : ℕ) → Spelled (bind (inputs_form n) behind_inputs) parts_text (λ (t : Transaction). (length t.inputs ≡ n) × (InTurn IsInput last_outpoint None t.inputs × OutputsMet t))
behind_input_count n =
    let rows = bind_spelled (inputs_form n) behind_inputs (flat_map input_text) outputs_text (AreRows IsInput last_outpoint n None) OutputsMet (λ (t : Transaction). t.inputs) (rows_spelled input_form last_outpoint input_text IsInput input_spelled n None) (λ inputs h. inputs_known inputs) in
    said_so (bind (inputs_form n) behind_inputs) parts_text (λ (t : Transaction). AreRows IsInput last_outpoint n None t.inputs × OutputsMet t) (λ (t : Transaction). (length t.inputs ≡ n) × (InTurn IsInput last_outpoint None t.inputs × OutputsMet t))
    (λ t h. (h.0.size, (h.0.in_turn, h.1))) (λ t h. (record { size = h.0; in_turn = h.1.0 }, h.1.1)) rows

pub tx_spelled : Spelled tx_form spelling IsTx
unfolding tx_form
tx_spelled =
    let all = bind_spelled (count_form Short 0 16 InputCount) (λ n. bind (inputs_form n) behind_inputs) (λ n. n ∷ []) parts_text (Within 0 16) (λ (t : Transaction). InTurn IsInput last_outpoint None t.inputs × OutputsMet t) (λ (t : Transaction). length t.inputs) (count_spelled Short 0 16 InputCount) (λ n h. behind_input_count n) in
    said_so tx_form spelling (λ (t : Transaction). Within 0 16 (length t.inputs) × (InTurn IsInput last_outpoint None t.inputs × OutputsMet t)) IsTx
    (λ t h. record { few_inputs = h.0.high; inputs = h.1.0; some_outputs = h.1.1.0.low; few_outputs = h.1.1.0.high; outputs = h.1.1.1 })
    (λ t h. (record { low = omega arith; high = h.few_inputs }, (h.inputs, (record { low = h.some_outputs; high = h.few_outputs }, h.outputs)))) all
