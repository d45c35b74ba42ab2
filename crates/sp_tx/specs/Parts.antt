-- A transaction without where it lies in memory, and the rule of the order of its inputs.
use Rattle.std.specs.Prelude.{Bool, true, List, Option, Some, None}
use Rattle.std.specs.Ordering.{is_lt}
use Rattle.sp_ids.specs.Outpoints.{outpoint_cmp}
use Rattle.sp_ids.specs.declared.outpoint.Outpoint.{Outpoint}
use Rattle.sp_tx.specs.declared.parts.Input.{Input}
use Rattle.sp_tx.specs.declared.parts.Output.{Output}

pub record Transaction : Type 0 where
  pub inputs : List Input
  pub outputs : List Output

abbrev pub of_parts : List Input → List Output → Transaction
of_parts inputs outputs = record { inputs = inputs; outputs = outputs }

-- strictly above the one before, where there is one
abbrev pub is_next : Option Outpoint → Outpoint → Bool
is_next None b = true
is_next (Some a) b = is_lt (outpoint_cmp a b)
