-- The state of a transaction by its number and its flag.
use Rattle.std.specs.Prelude.{ℕ, Bool, true, false, List, Option, Some, None}
use Rattle.sp_carry.specs.declared.state.TxState.{TxState}
use Rattle.sp_carry.specs.declared.state.TxState.TheVariants.{Accepted, Rejected, Absent}
use Rattle.sp_carry.specs.Carried.{Carried, number_of}
use Rattle.sp_carry.specs.Flags.{is_set}

abbrev pub state_of_flag : Bool → TxState
state_of_flag true = Accepted
state_of_flag false = Rejected

abbrev pub state_of_number : List Bool → Option ℕ → TxState
state_of_number txs None = Absent
state_of_number txs (Some tx) = state_of_flag (is_set txs tx)

-- absent where no carrier has the id, else by the flag of its transaction
abbrev pub state_by_number : Carried → List Bool → ℕ → TxState
state_by_number k txs id = state_of_number txs (number_of k id)
