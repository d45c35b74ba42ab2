-- One pass over the carriers in their order: whether a carrier is accepted, by the flags of those before it.
use Rattle.std.specs.Prelude.{ℕ, zero, suc, Bool, false, ◌==◌, ◌&&◌, ◌||◌, not, List, [], ◌∷◌, ◌++◌, length, map, Option, Some, None, position, nat_eq, if◌then◌else◌}
use Rattle.std.specs.List.{list_any, list_all, range_with_len}
use Rattle.sp_tx.specs.Spending.{id_of}
use Rattle.sp_tx.specs.declared.parts.Input.{Input}
use Rattle.sp_dag.specs.Numbered.{Numbered}
use Rattle.sp_carry.specs.declared.carrier.Carrier.{Carrier}
use Rattle.sp_carry.specs.Carried.{tx_at, Carried, carriers_in}
use Rattle.sp_carry.specs.Lookups.{spenders_in}
use Rattle.sp_carry.specs.Flags.{is_set}
use Rattle.sp_accept.specs.Rows.{row_at}
use Rattle.sp_accept.specs.Standing.{is_before, is_below}

-- the carrier is accepted, and stands in the past of the block
abbrev pub is_accepted_below : Numbered → Carried → List Bool → ℕ → ℕ → Bool
is_accepted_below table k flags block c = is_set flags c && is_below table (row_at k.rows c).block block

-- such a carrier of the transaction is there
abbrev pub is_paid : Numbered → Carried → List Bool → ℕ → ℕ → Bool
is_paid table k flags block tx =
    list_any (is_accepted_below table k flags block) (carriers_in k.rows tx)

abbrev pub is_paid_by : Numbered → Carried → List Bool → ℕ → Option ℕ → Bool
is_paid_by table k flags block None = false
is_paid_by table k flags block (Some tx) = is_paid table k flags block tx

-- so does one of the transaction that the input names
abbrev pub has_source : Numbered → Carried → List Bool → ℕ → Input → Bool
has_source table k flags block input = is_paid_by table k flags block (position (nat_eq input.from.tx) (map id_of k.txs))

-- a carrier stands in the way of one in the block: it is sound, and is an accepted one in the past, or one in an
-- unrelated block that the votes don't put behind
abbrev pub is_beaten_by : Numbered → List Bool → ℕ → ℕ → Carrier → Bool
is_beaten_by table flags block c other =
    other.sound
    && (if is_below table other.block block
    then is_set flags c
    else (not (other.block == block || is_below table block other.block) && not (is_before table block other.block)))

-- so does the carrier of this number
abbrev pub is_beaten_at : Numbered → Carried → List Bool → ℕ → ℕ → Bool
is_beaten_at table k flags block c = is_beaten_by table flags block c (row_at k.rows c)

-- so does a carrier of the other transaction
abbrev pub is_beaten : Numbered → Carried → List Bool → ℕ → ℕ → Bool
is_beaten table k flags block tx = list_any (is_beaten_at table k flags block) (carriers_in k.rows tx)

-- another spender of the outpoint stands in the way of the carrier
abbrev pub is_lost : Numbered → Carried → List Bool → Carrier → Input → Bool
is_lost table k flags row input =
    list_any (λ other. not (other == row.tx) && is_beaten table k flags row.block other) (spenders_in k.txs input.from)

-- the inputs of a transaction's number
abbrev pub inputs_at : Carried → ℕ → List Input
inputs_at k tx = (tx_at k tx).inputs

-- the carrier of this number is accepted
abbrev pub is_next : Numbered → Carried → List Bool → ℕ → Bool
is_next table k flags c =
    let row = row_at k.rows c in
    row.sound
    && (list_all (has_source table k flags row.block) (inputs_at k row.tx)
    && not (list_any (is_lost table k flags row) (inputs_at k row.tx)))

-- which of the first n carriers are accepted
unfoldable pub passed : Numbered → Carried → ℕ → List Bool
passed table k zero = []
passed table k (suc n) = passed table k n ++ is_next table k (passed table k n) n ∷ []

-- whether a transaction has an accepted carrier
abbrev pub is_carried_flag : Carried → List Bool → ℕ → Bool
is_carried_flag k flags tx = list_any (is_set flags) (carriers_in k.rows tx)

-- which transactions have one
abbrev pub carried_flags : Carried → List Bool → List Bool
carried_flags k flags = map (is_carried_flag k flags) (range_with_len 0 (length k.txs))
