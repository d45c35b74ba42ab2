-- The fault that the text of a transaction's parts has, whatever follows it.
use Rattle.std.proofs.Common.{◌≡◌, ℕ, ◌+◌, ◌<◌, ◌≤◌, ◌^◌, true, false, ltb, leb, List, ◌∷◌, ◌++◌, [], length, Option, None, Some, Result, Ok, Err, refl, ap, ◌∙◌, append_assoc, arith, inr, ◌⊎◌}
use Rattle.std.specs.List.{flat_map}
use Rattle.std.specs.Int.{w64, to_le_bytes, from_le_bytes}
use Rattle.std.proofs.lemmas.Bool.{le-ltb, lt-leb, le-leb}
use Rattle.std.proofs.lemmas.Nat.{from_le_bytes-to_le_bytes_8}
use Rattle.sp_form.specs.Form.{whole, bind, rule, first_broken}
use Rattle.sp_form.specs.Reading.{read}
use Rattle.sp_form.specs.Turns.{InTurn}
use Rattle.sp_form.specs.Values.{bytes_form, count_form}
use Rattle.sp_form.proofs.Breaks.{count_breaks, first_breaks, later_breaks, value_breaks}
use Rattle.sp_form.proofs.Simple.{count_spelled}
use Rattle.sp_form.proofs.Taking.{row_again}
use Rattle.sp_ids.specs.Key.{bytes_of}
use Rattle.sp_ids.specs.declared.outpoint.Outpoint.{Outpoint}
use Rattle.sp_tx.specs.declared.parts.Input.{Input}
use Rattle.sp_tx.specs.declared.parts.Output.{Output}
use Rattle.sp_tx.specs.declared.fault.TxFault.{TxFault}
use Rattle.sp_tx.specs.declared.fault.TxFault.TheVariants.{Short, InputCount, InputOrder, PreimageLength, OutputCount, Amount, Sum}
use Rattle.sp_tx.specs.Format.{amount_form, input_form, inputs_form, last_outpoint, outpoint_form, outpoint_of, output_form, outputs_form, preimage_form, sum_so_far, tx_form}
use Rattle.sp_tx.specs.Judging.{Judges}
use Rattle.sp_tx.specs.Parts.{is_next, of_parts, Transaction}
use Rattle.sp_tx.specs.Spelling.{input_text, IsInput, IsOutput, IsTx, outpoint_text, output_text, preimage_text, spelling}
use Rattle.sp_tx.proofs.Spelled.{behind_inputs, input_spelled, made_input, outpoint_back, outpoint_size, outpoint_spelled}

-- ---- inputs

pub order_breaks : (before : Option Outpoint) (input : Input) (rest : List ℕ) → input.from.tx < 2 ^ 256 → is_next before input.from ≡ false → read (input_form before) (input_text input ++ rest) ≡ Err InputOrder
unfolding input_form
order_breaks before input rest id order =
    ap (read (input_form before)) (append_assoc (outpoint_text input.from) (preimage_text input.preimage) rest)
    ∙ first_breaks (outpoint_form before) _ (outpoint_text input.from ++ (preimage_text input.preimage ++ rest)) InputOrder
    (value_breaks 33 Short outpoint_of (λ outpoint. rule (is_next before outpoint) InputOrder ∷ []) input.from (outpoint_text input.from) (preimage_text input.preimage ++ rest) InputOrder (outpoint_size input.from) (outpoint_back input.from id) (rw order refl))

pub size_breaks : (before : Option Outpoint) (input : Input) (rest : List ℕ) → input.from.tx < 2 ^ 256 → is_next before input.from ≡ true → (length input.preimage < 1) ⊎ (64 < length input.preimage)
    → read (input_form before) (input_text input ++ rest) ≡ Err PreimageLength
unfolding input_form preimage_form made_input
size_breaks before input rest id order size =
    let behind : List ℕ = preimage_text input.preimage ++ rest in
    ap (read (input_form before)) (append_assoc (outpoint_text input.from) (preimage_text input.preimage) rest)
    ∙ later_breaks (outpoint_form before) _ (outpoint_text input.from ++ behind) input.from behind PreimageLength ((outpoint_spelled before).again input.from behind (record { id = id; order = order }))
    (first_breaks preimage_form (λ preimage. whole (made_input input.from preimage)) behind PreimageLength
    (first_breaks (count_form Short 1 64 PreimageLength) (λ n. bytes_form n Short) behind PreimageLength (count_breaks Short 1 64 PreimageLength (length input.preimage) (input.preimage ++ rest) size)))

-- ---- outputs

amount_broken : (before amount : ℕ) → amount ≡ 0 → first_broken (rule (leb 1 amount) Amount ∷ rule (ltb (before + amount) (2 ^ 63)) Sum ∷ []) ≡ Some Amount
amount_broken before amount none =
    let a : leb 1 amount ≡ false = lt-leb _ _ (omega arith) in
    rw a refl

pub amount_breaks : (before : ℕ) (output : Output) (rest : List ℕ) → output.amount ≡ 0 → read (output_form before) (output_text output ++ rest) ≡ Err Amount
unfolding output_form
amount_breaks before output rest none =
    ap (read (output_form before)) (append_assoc (to_le_bytes w64 output.amount) (bytes_of output.lock) rest)
    ∙ first_breaks (amount_form before) _ (to_le_bytes w64 output.amount ++ (bytes_of output.lock ++ rest)) Amount
    (value_breaks 8 Short (from_le_bytes w64) (λ amount. rule (leb 1 amount) Amount ∷ rule (ltb (before + amount) (2 ^ 63)) Sum ∷ []) output.amount (to_le_bytes w64 output.amount) (bytes_of output.lock ++ rest) Amount refl
    (from_le_bytes-to_le_bytes_8 output.amount (omega arith)) (amount_broken before output.amount none))

sum_broken : (before amount : ℕ) → 1 ≤ amount → 2 ^ 63 ≤ before + amount → first_broken (rule (leb 1 amount) Amount ∷ rule (ltb (before + amount) (2 ^ 63)) Sum ∷ []) ≡ Some Sum
sum_broken before amount some more =
    let a : leb 1 amount ≡ true = le-leb _ _ some in
    let b : ltb (before + amount) (2 ^ 63) ≡ false = le-ltb _ _ more in
    rw (a, b) refl

pub sum_breaks : (before : ℕ) (output : Output) (rest : List ℕ) → 1 ≤ output.amount → output.amount < 2 ^ 64 → 2 ^ 63 ≤ before + output.amount → read (output_form before) (output_text output ++ rest) ≡ Err Sum
unfolding output_form
sum_breaks before output rest some fits more =
    ap (read (output_form before)) (append_assoc (to_le_bytes w64 output.amount) (bytes_of output.lock) rest)
    ∙ first_breaks (amount_form before) _ (to_le_bytes w64 output.amount ++ (bytes_of output.lock ++ rest)) Sum
    (value_breaks 8 Short (from_le_bytes w64) (λ amount. rule (leb 1 amount) Amount ∷ rule (ltb (before + amount) (2 ^ 63)) Sum ∷ []) output.amount (to_le_bytes w64 output.amount) (bytes_of output.lock ++ rest) Sum refl
    (from_le_bytes-to_le_bytes_8 output.amount fits) (sum_broken before output.amount some more))

-- ---- the whole

behind_text : Transaction → List ℕ → List ℕ
behind_text t rest = length t.outputs ∷ (flat_map output_text t.outputs ++ rest)

spelled : (t : Transaction) (rest : List ℕ) → spelling t ++ rest ≡ length t.inputs ∷ (flat_map input_text t.inputs ++ behind_text t rest)
unfolding behind_text
spelled t rest = ap (λ (x : List ℕ). length t.inputs ∷ x) (append_assoc (flat_map input_text t.inputs) (length t.outputs ∷ flat_map output_text t.outputs) rest)

module _ (t : Transaction) (rest : List ℕ) where
  pub many_inputs : 16 < length t.inputs → read tx_form (spelling t ++ rest) ≡ Err InputCount
  unfolding tx_form
  many_inputs more =
      ap (read tx_form) (spelled t rest)
      ∙ first_breaks (count_form Short 0 16 InputCount) _ (length t.inputs ∷ (flat_map input_text t.inputs ++ behind_text t rest)) InputCount (count_breaks Short 0 16 InputCount (length t.inputs) _ (inr more))

  -- a fault behind the number of inputs
  behind_count : (f : TxFault) → length t.inputs ≤ 16 → read (bind (inputs_form (length t.inputs)) behind_inputs) (flat_map input_text t.inputs ++ behind_text t rest) ≡ Err f → read tx_form (spelling t ++ rest) ≡ Err f
  unfolding tx_form
  behind_count f few e =
      ap (read tx_form) (spelled t rest)
      ∙ later_breaks (count_form Short 0 16 InputCount) _ (length t.inputs ∷ (flat_map input_text t.inputs ++ behind_text t rest)) (length t.inputs) (flat_map input_text t.inputs ++ behind_text t rest) f
      ((count_spelled Short 0 16 InputCount).again (length t.inputs) _ (record { low = omega arith; high = few })) e

  pub input_breaks : (f : TxFault) → length t.inputs ≤ 16 → ((more : List ℕ) → read (inputs_form (length t.inputs)) (flat_map input_text t.inputs ++ more) ≡ Err f) → read tx_form (spelling t ++ rest) ≡ Err f
  input_breaks f few e = behind_count f few (first_breaks (inputs_form (length t.inputs)) behind_inputs (flat_map input_text t.inputs ++ behind_text t rest) f (e (behind_text t rest)))

  -- a fault behind the inputs
  behind_all : (f : TxFault) → length t.inputs ≤ 16 → InTurn IsInput last_outpoint None t.inputs → read (behind_inputs t.inputs) (behind_text t rest) ≡ Err f → read tx_form (spelling t ++ rest) ≡ Err f
  behind_all f few inputs e =
      behind_count f few (later_breaks (inputs_form (length t.inputs)) behind_inputs (flat_map input_text t.inputs ++ behind_text t rest) t.inputs (behind_text t rest) f
      (row_again input_form last_outpoint input_text IsInput input_spelled None t.inputs (behind_text t rest) inputs) e)

  pub output_count_breaks : length t.inputs ≤ 16 → InTurn IsInput last_outpoint None t.inputs → (length t.outputs < 1) ⊎ (16 < length t.outputs) → read tx_form (spelling t ++ rest) ≡ Err OutputCount
  unfolding behind_text
  output_count_breaks few inputs size =
      behind_all OutputCount few inputs (first_breaks (count_form Short 1 16 OutputCount) _ (behind_text t rest) OutputCount (count_breaks Short 1 16 OutputCount (length t.outputs) (flat_map output_text t.outputs ++ rest) size))

  pub output_breaks : (f : TxFault) → length t.inputs ≤ 16 → InTurn IsInput last_outpoint None t.inputs → 1 ≤ length t.outputs → length t.outputs ≤ 16
      → ((more : List ℕ) → read (outputs_form (length t.outputs)) (flat_map output_text t.outputs ++ more) ≡ Err f) → read tx_form (spelling t ++ rest) ≡ Err f
  unfolding behind_text
  output_breaks f few inputs some few_outputs e = behind_all f few inputs
      (later_breaks (count_form Short 1 16 OutputCount) _ (behind_text t rest) (length t.outputs) (flat_map output_text t.outputs ++ rest) f ((count_spelled Short 1 16 OutputCount).again (length t.outputs) _ (record { low = some; high = few_outputs }))
      (first_breaks (outputs_form (length t.outputs)) (λ outputs. whole (of_parts t.inputs outputs)) (flat_map output_text t.outputs ++ rest) f (e rest)))

-- what was found in the outputs is found in all
pub judges_all : (inputs : List Input) (outputs : List Output) (r : Result (Unit {0}) TxFault) → length inputs ≤ 16 → InTurn IsInput last_outpoint None inputs → 1 ≤ length outputs → length outputs ≤ 16
    → Judges r (InTurn IsOutput sum_so_far 0 outputs) (outputs_form (length outputs)) (flat_map output_text outputs) → Judges r (IsTx (of_parts inputs outputs)) tx_form (spelling (of_parts inputs outputs))
judges_all inputs outputs (Ok u) few turn some few_outputs j = record { ok = record { few_inputs = few; inputs = turn; some_outputs = some; few_outputs = few_outputs; outputs = j.ok }; fault = tt }
judges_all inputs outputs (Err f) few turn some few_outputs j = record { ok = tt; fault = (j.fault.0, λ rest. output_breaks (of_parts inputs outputs) rest f few turn some few_outputs j.fault.1) }
