-- The format of a transaction, a line for each field: its width, and its rules in the order in which they
-- are judged.
use Rattle.std.specs.Prelude.{ℕ, ◌+◌, ◌^◌, nat_le, nat_lt, List, [], ◌∷◌, take, slice_index, Option, Some, None}
use Rattle.std.specs.Int.{w64, from_le_bytes}
use Rattle.sp_form.specs.Form.{Form, whole, ◌>>=◌, rows, rule}
use Rattle.sp_form.specs.Values.{bytes_form, count_form, value_form}
use Rattle.sp_ids.specs.Key.{number_of}
use Rattle.sp_ids.specs.declared.outpoint.Outpoint.{Outpoint}
use Rattle.sp_tx.specs.declared.parts.Input.{Input}
use Rattle.sp_tx.specs.declared.parts.Output.{Output}
use Rattle.sp_tx.specs.declared.fault.TxFault.{TxFault}
use Rattle.sp_tx.specs.declared.fault.TxFault.TheVariants.{Short, InputCount, InputOrder, PreimageLength, OutputCount, Amount, Sum}
use Rattle.sp_tx.specs.Parts.{Transaction, is_next, of_parts}

abbrev pub outpoint_of : List ℕ → Outpoint
outpoint_of bytes = record { tx = number_of (take 32 bytes); index = slice_index bytes 32 }

-- an id and an index, one field, strictly above the outpoint of the input before
abbrev pub outpoint_form : Option Outpoint → Form TxFault Outpoint
outpoint_form before = value_form 33 Short outpoint_of (λ outpoint. rule (is_next before outpoint) InputOrder ∷ [])

unfoldable pub preimage_form : Form TxFault (List ℕ)
preimage_form = do
  size ← count_form Short 1 64 PreimageLength
  bytes_form size Short

unfoldable pub input_form : Option Outpoint → Form TxFault Input
input_form before = do
  from ← outpoint_form before
  preimage ← preimage_form
  whole (record { from = from; preimage = preimage })

-- at least 1, and below 2^63 together with the amounts before it
abbrev pub amount_form : ℕ → Form TxFault ℕ
amount_form before = value_form 8 Short (from_le_bytes w64) (λ amount. rule (nat_le 1 amount) Amount ∷ rule (nat_lt (before + amount) (2 ^ 63)) Sum ∷ [])

abbrev pub lock_form : Form TxFault ℕ
lock_form = value_form 32 Short number_of (λ lock. [])

unfoldable pub output_form : ℕ → Form TxFault Output
output_form before = do
  amount ← amount_form before
  lock ← lock_form
  whole (record { amount = amount; lock = lock })

-- what the rules of the next input look back at
abbrev pub last_outpoint : Option Outpoint → Input → Option Outpoint
last_outpoint before input = Some input.from

-- what the rules of the next output look back at
abbrev pub sum_so_far : ℕ → Output → ℕ
sum_so_far before output = before + output.amount

abbrev pub inputs_form : ℕ → Form TxFault (List Input)
inputs_form count = rows input_form last_outpoint count None

abbrev pub outputs_form : ℕ → Form TxFault (List Output)
outputs_form count = rows output_form sum_so_far count 0

unfoldable pub tx_form : Form TxFault Transaction
tx_form = do
  input_count ← count_form Short 0 16 InputCount
  inputs ← inputs_form input_count
  output_count ← count_form Short 1 16 OutputCount
  outputs ← outputs_form output_count
  whole (of_parts inputs outputs)
