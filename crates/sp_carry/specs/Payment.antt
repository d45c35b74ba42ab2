-- Transactions of a ledger by numbers: the id is the SHA-256 of the bytes, and each input has the lock that its
-- preimage opens, its SHA-256. So the rules of the ledger compute, whatever the digests are.
use Rattle.std.specs.Prelude.{ℕ, Bool, true, false, ◌==◌, ◌&&◌, not, List, [], ◌∷◌, map, Option, Some, None, slice_get, sum_by}
use Rattle.std.specs.List.{list_any, find}
use Rattle.sp_ids.specs.Digest.{sha256_number}
use Rattle.sp_ids.specs.declared.outpoint.Outpoint.{Outpoint}
use Rattle.sp_tx.specs.declared.parts.Input.{Input}
use Rattle.sp_tx.specs.declared.parts.Output.{Output}
use Rattle.sp_tx.specs.Parts.{Transaction}
use Rattle.sp_tx.specs.Spending.{id_of}

-- the outpoint that is spent, and the lock that the preimage opens
pub record Spent : Type 0 where
  pub from : Outpoint
  pub opens : ℕ

pub record Payment : Type 0 where
  pub id : ℕ
  pub inputs : List Spent
  pub outputs : List Output

abbrev pub spent_by : Input → Spent
spent_by input = record { from = input.from; opens = sha256_number input.preimage }

-- a transaction as a payment
abbrev pub payment_of : Transaction → Payment
payment_of t = record { id = id_of t; inputs = map spent_by t.inputs; outputs = t.outputs }

-- whether two outpoints are one
abbrev pub is_same_outpoint : Outpoint → Outpoint → Bool
is_same_outpoint a b = (a.tx == b.tx) && (a.index == b.index)

-- whether the payment has the outpoint as an input
abbrev pub spends : Payment → Outpoint → Bool
spends t from = list_any (λ (i : Spent). is_same_outpoint i.from from) t.inputs

-- the ids differ, and the two have an outpoint in common
abbrev pub conflicts : Payment → Payment → Bool
conflicts t u = not (t.id == u.id) && list_any (λ (i : Spent). spends u i.from) t.inputs

abbrev pub output_in : Option Payment → ℕ → Option Output
output_in None index = None
output_in (Some t) index = slice_get t.outputs index

-- the output that an outpoint names among these payments, of which the first one of each id counts
abbrev pub output_at : List Payment → Outpoint → Option Output
output_at payments from = output_in (find (λ (t : Payment). t.id == from.tx) payments) from.index

abbrev pub is_opened_by : ℕ → Option Output → Bool
is_opened_by opens None = false
is_opened_by opens (Some output) = output.lock == opens

abbrev pub amount_or_none : Option Output → ℕ
amount_or_none None = 0
amount_or_none (Some output) = output.amount

-- the input names an output of these payments, and opens its lock
abbrev pub finds : List Payment → Spent → Bool
finds payments input = is_opened_by input.opens (output_at payments input.from)

-- what the payment's inputs are worth, their outputs being among these payments
abbrev pub spent_amount : List Payment → Payment → ℕ
spent_amount payments t = sum_by (λ (i : Spent). amount_or_none (output_at payments i.from)) t.inputs

abbrev pub paid_amount : Payment → ℕ
paid_amount t = sum_by (λ (o : Output). o.amount) t.outputs

-- whether no outpoint stands twice
abbrev pub names_once : List Spent → Bool
names_once [] = true
names_once (i ∷ is) = not (list_any (λ (j : Spent). is_same_outpoint j.from i.from) is) && names_once is
