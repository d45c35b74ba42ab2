-- The blocks in which a transaction is accepted, as rows, some of which are kept while flags turn.
use Rattle.std.specs.Prelude.{ℕ, ◌≡◌, ◌==◌, ◌&&◌, ◌<◌, Bool, not, List, length, slice_index_or, Option, Some, None}
use Rattle.std.specs.List.{list_any}
use Rattle.sp_model.specs.Graph.{has}
use Rattle.sp_tx.specs.declared.parts.Input.{Input}
use Rattle.sp_carry.specs.Carried.{Carried, carriers_in}
use Rattle.sp_carry.specs.Flags.{is_set}
use Rattle.sp_carry.specs.Lookups.{spenders_in}
use Rattle.sp_carry.specs.RivalBlocks.{row_of}
use Rattle.sp_accept.specs.Rows.{row_at}

-- carrier c is sound and accepted, and stands in the block
abbrev pub is_accepted_in : Carried → List Bool → ℕ → ℕ → Bool
is_accepted_in k flags c z = is_set flags c && ((row_at k.rows c).sound && (z == (row_at k.rows c).block))

-- so is a carrier of the transaction
abbrev pub has_accepted_in : Carried → List Bool → ℕ → ℕ → Bool
has_accepted_in k flags tx z = list_any (λ c. is_accepted_in k flags c z) (carriers_in k.rows tx)

-- The rows of some transactions: each of these has a place, and the row there has the blocks in which a sound carrier of it is
-- accepted
abbrev pub AreAccepted : Carried → List Bool → List (Option ℕ) → List (List ℕ) → Type 0
AreAccepted k flags places rows =
    (tx place : ℕ) → slice_index_or places tx None ≡ Some place
    → (place < length rows) × ((z : ℕ) → has (row_of rows place) z ≡ has_accepted_in k flags tx z)

-- carrier c is sound and accepted, and stands in none of the blocks of the row
abbrev pub stands_outside : Carried → List Bool → List ℕ → ℕ → Bool
stands_outside k flags safe c = is_set flags c && ((row_at k.rows c).sound && not (has safe (row_at k.rows c).block))

-- so does a carrier of the other transaction, which isn't this one
abbrev pub is_other_outside : Carried → List Bool → List ℕ → ℕ → ℕ → Bool
is_other_outside k flags safe tx other = not (other == tx) && list_any (stands_outside k flags safe) (carriers_in k.rows other)

-- so does one of another spender of what the input spends
abbrev pub is_spent_outside : Carried → List Bool → List ℕ → ℕ → Input → Bool
is_spent_outside k flags safe tx input = list_any (is_other_outside k flags safe tx) (spenders_in k.txs input.from)
