-- What the inputs of a transaction are worth over the payments that they may spend.
use Rattle.std.specs.Prelude.{ℕ, List, [], map, sum_by, Option, Some, None, cond, slice_get}
use Rattle.std.specs.List.{list_all}
use Rattle.sp_tx.specs.declared.parts.Input.{Input}
use Rattle.sp_tx.specs.declared.parts.Output.{Output}
use Rattle.sp_tx.specs.Parts.{Transaction}
use Rattle.sp_carry.specs.declared.carrier.Carrier.{Carrier}
use Rattle.sp_carry.specs.Payment.{Payment, Spent, amount_or_none, finds, output_at, spent_by}

abbrev pub outputs_or_none : Option Transaction → List Output
outputs_or_none None = []
outputs_or_none (Some t) = t.outputs

abbrev pub block_or_none : Option Carrier → ℕ
block_or_none None = 0
block_or_none (Some r) = r.block

-- the block of a carrier, 0 where there is no such carrier
abbrev pub block_at : List Carrier → ℕ → ℕ
block_at rows c = block_or_none (slice_get rows c)

-- the amount that an input names
abbrev pub amount_of : List Payment → Spent → ℕ
amount_of below input = amount_or_none (output_at below input.from)

-- the amount that an input names and opens
abbrev pub worth_of : List Payment → Spent → Option ℕ
worth_of below input = cond (finds below input) (Some (amount_of below input)) None

-- what all inputs are worth, where each of them finds what it spends
abbrev pub worth_in : List Payment → List Input → Option ℕ
worth_in below inputs =
    cond (list_all (finds below) (map spent_by inputs)) (Some (sum_by (amount_of below) (map spent_by inputs))) None
