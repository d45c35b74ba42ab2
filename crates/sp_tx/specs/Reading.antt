-- Reading a transaction from left to right, for the contracts of private functions alone. What is promised of it
-- stands in Format and Spelling.
use Rattle.std.specs.Prelude.{ℕ, ◌-◌, List, length, drop, Result, Ok, Err}
use Rattle.sp_form.specs.Reading.{read, ◌then◌}
use Rattle.sp_form.specs.Values.{count_form}
use Rattle.sp_tx.specs.declared.fault.TxFault.{TxFault}
use Rattle.sp_tx.specs.declared.fault.TxFault.TheVariants.{Short, InputCount, OutputCount}
use Rattle.sp_tx.specs.Format.{inputs_form, outputs_form}
use Rattle.sp_tx.specs.Parts.{of_parts, Transaction}

-- the parts of a transaction, one after another
abbrev pub tx_steps : List ℕ → Result (Transaction × List ℕ) TxFault
tx_steps list =
    read (count_form Short 0 16 InputCount) list then λ count.
    read (inputs_form count.0) count.1 then λ inputs.
    read (count_form Short 1 16 OutputCount) inputs.1 then λ count.
    read (outputs_form count.0) count.1 then λ outputs.
    Ok (of_parts inputs.0 outputs.0, outputs.1)

-- what was read from a place on, and the place behind it
abbrev pub with_end : {A : Type 0} → List ℕ → Result (A × List ℕ) TxFault → Result (A × ℕ) TxFault
with_end list (Ok x) = Ok (x.0, length list - length x.1)
with_end list (Err fault) = Err fault

abbrev pub read_at : List ℕ → ℕ → Result (Transaction × ℕ) TxFault
read_at list at = with_end list (tx_steps (drop at list))
