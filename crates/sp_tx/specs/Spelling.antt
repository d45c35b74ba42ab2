-- The rules that a transaction's parts meet, and its one spelling.
use Rattle.std.specs.Prelude.{◌≡◌, ◌≢◌, ℕ, ◌+◌, ◌≤◌, ◌<◌, ◌^◌, true, slice_range, List, [], ◌∷◌, ◌++◌, length, Option, None}
use Rattle.std.specs.List.{flat_map}
use Rattle.std.specs.Int.{w64, to_le_bytes}
use Rattle.sp_form.specs.Form.{Begins, HasFault, Spells}
use Rattle.sp_form.specs.Turns.{InTurn}
use Rattle.sp_ids.specs.Key.{bytes_of}
use Rattle.sp_ids.specs.declared.outpoint.Outpoint.{Outpoint}
use Rattle.sp_tx.specs.declared.parts.Input.{Input}
use Rattle.sp_tx.specs.declared.parts.Output.{Output}
use Rattle.sp_tx.specs.declared.fault.TxFault.{TxFault}
use Rattle.sp_tx.specs.declared.fault.TxFault.TheVariants.{Short}
use Rattle.sp_tx.specs.Format.{last_outpoint, sum_so_far, tx_form}
use Rattle.sp_tx.specs.Parts.{Transaction, is_next, of_parts}
use Rattle.sp_tx.specs.Sorting.{IsSortOf}

-- What an input meets, given the outpoint of the input before it.
pub record IsInput (before : Option Outpoint) (input : Input) : Type 0 where
  pub id : input.from.tx < 2 ^ 256
  pub order : is_next before input.from ≡ true
  pub some_preimage : 1 ≤ length input.preimage
  pub short_preimage : length input.preimage ≤ 64

-- What an output meets, given the sum of the amounts before it.
pub record IsOutput (before : ℕ) (output : Output) : Type 0 where
  pub amount : 1 ≤ output.amount
  pub sum : before + output.amount < 2 ^ 63
  pub lock : output.lock < 2 ^ 256

pub record IsTx (t : Transaction) : Type 0 where
  pub few_inputs : length t.inputs ≤ 16
  pub inputs : InTurn IsInput last_outpoint None t.inputs
  pub some_outputs : 1 ≤ length t.outputs
  pub few_outputs : length t.outputs ≤ 16
  pub outputs : InTurn IsOutput sum_so_far 0 t.outputs

abbrev pub outpoint_text : Outpoint → List ℕ
outpoint_text outpoint = bytes_of outpoint.tx ++ outpoint.index ∷ []

abbrev pub preimage_text : List ℕ → List ℕ
preimage_text preimage = length preimage ∷ preimage

abbrev pub input_text : Input → List ℕ
input_text input = outpoint_text input.from ++ preimage_text input.preimage

abbrev pub output_text : Output → List ℕ
output_text output = to_le_bytes w64 output.amount ++ bytes_of output.lock

-- The bytes of a transaction, counts and lengths as whole numbers.
abbrev pub spelling : Transaction → List ℕ
spelling t = length t.inputs ∷ flat_map input_text t.inputs ++ length t.outputs ∷ flat_map output_text t.outputs

-- the list spells the transaction
abbrev pub SpellsTx : List ℕ → Transaction → Type 0
SpellsTx list t = Spells tx_form list t

-- some front of the list spells a transaction
abbrev pub BeginsWithTx : List ℕ → Type 0
BeginsWithTx list = Begins tx_form list

-- no front of the list spells a transaction, and this is its first fault
abbrev pub HasTxFault : List ℕ → TxFault → Type 0
HasTxFault list fault = HasFault tx_form list fault

-- the bytes from one place to another spell the transaction
pub record SpellsBetween (list : List ℕ) (at end : ℕ) (t : Transaction) : Type 0 where
  pub ordered : at ≤ end
  pub within : end ≤ length list
  pub spells : SpellsTx (slice_range list at end) t

-- A fault of parts that are no bytes yet: that of their spelling once the inputs are sorted, which ends
-- nowhere too early.
pub record HasPartsFault (inputs : List Input) (outputs : List Output) (fault : TxFault) : Type 0 where
  pub sorted : List Input
  pub sort : IsSortOf inputs sorted
  pub first : HasTxFault (spelling (of_parts sorted outputs)) fault
  pub whole : fault ≢ Short

pub record IsMadeOf (inputs : List Input) (outputs : List Output) (t : Transaction) : Type 0 where
  pub sort : IsSortOf inputs t.inputs
  pub same : t.outputs ≡ outputs
