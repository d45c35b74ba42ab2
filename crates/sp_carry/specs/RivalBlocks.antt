-- The blocks in which a transaction has rivals, as a row for each transaction, and how such rows are marked.
use Rattle.std.specs.Prelude.{ℕ, ◌≡◌, ◌==◌, ◌&&◌, ◌||◌, ◌<◌, ◌≤◌, Bool, false, not, List, [], length, Option, Some, None, slice_get, slice_index_or}
use Rattle.std.specs.List.{list_any}
use Rattle.sp_bits.specs.Places.{has, members_below, places_where}
use Rattle.sp_tx.specs.declared.parts.Input.{Input}
use Rattle.sp_tx.specs.Parts.{Transaction}
use Rattle.sp_carry.specs.declared.carrier.Carrier.{Carrier}
use Rattle.sp_carry.specs.Payment.{conflicts, payment_of}
use Rattle.sp_carry.specs.Lookups.{spenders_in}
use Rattle.sp_carry.specs.Carried.{Carried, carriers_in, tx_at}

-- the carrier is a sound one in this block, and its transaction conflicts with that of the number
abbrev pub is_rival_in : Carried → ℕ → ℕ → Carrier → Bool
is_rival_in k tx z r = r.sound && ((z == r.block) && conflicts (payment_of (tx_at k tx)) (payment_of (tx_at k r.tx)))

-- a sound carrier in the block conflicts with the transaction
abbrev pub has_rival_in : Carried → ℕ → ℕ → Bool
has_rival_in k tx z = list_any (is_rival_in k tx z) k.rows

-- the blocks in which a sound carrier conflicts with the transaction
abbrev pub rival_blocks : Carried → ℕ → List ℕ
rival_blocks k tx = places_where (has_rival_in k tx)

-- the row of a number, none where it isn't there
abbrev pub row_of : List (List ℕ) → ℕ → List ℕ
row_of rows tx = slice_index_or rows tx []

-- each transaction has a row of the blocks with rivals of it
pub record HasRivals (k : Carried) (rows : List (List ℕ)) : Type 0 where
  pub long : length rows ≡ length k.txs
  pub each : (tx z : ℕ) → tx < length k.txs → z < 512 → has (row_of rows tx) z ≡ has_rival_in k tx z

-- ---- marks

-- the row with the blocks that pass
abbrev pub IsMarkedBy : (ℕ → Bool) → List ℕ → List ℕ → Type 0
IsMarkedBy test old new = (z : ℕ) → has new z ≡ (has old z || test z)

-- each row with the blocks that pass for it
pub record AreMarkedBy (test : ℕ → ℕ → Bool) (old new : List (List ℕ)) : Type 0 where
  pub long : length new ≡ length old
  pub each : (tx z : ℕ) → tx < length old → has (row_of new tx) z ≡ (has (row_of old tx) z || test tx z)

abbrev pub is_sound_one : Option Carrier → ℕ → Bool
is_sound_one None z = false
is_sound_one (Some r) z = r.sound && (z == r.block)

-- carrier c is sound, and stands in the block
abbrev pub is_sound_in : List Carrier → ℕ → ℕ → Bool
is_sound_in rows c z = is_sound_one (slice_get rows c) z

-- the other transaction isn't this one, and a sound carrier of it stands in the block
abbrev pub has_other_in : List Carrier → ℕ → ℕ → ℕ → Bool
has_other_in rows tx other z = not (other == tx) && list_any (λ c. is_sound_in rows c z) (carriers_in rows other)

-- so it is for one that spends what the input spends
abbrev pub has_spender_in : List Transaction → List Carrier → ℕ → Input → ℕ → Bool
has_spender_in txs rows tx input z = list_any (λ other. has_other_in rows tx other z) (spenders_in txs input.from)

-- place z in the row of t is this block in the row of this transaction, which isn't `tx`
abbrev pub is_in_row_of : ℕ → ℕ → ℕ → ℕ → ℕ → Bool
is_in_row_of tx block other t z = not (other == tx) && ((t == other) && (z == block))

-- so it is for one that spends what the input spends
abbrev pub is_in_row_of_spender : List Transaction → ℕ → ℕ → Input → ℕ → ℕ → Bool
is_in_row_of_spender txs tx block input t z = list_any (λ other. is_in_row_of tx block other t z) (spenders_in txs input.from)

-- rows of the first transactions, with those of rivals for more behind them, up to a number
pub record ArePushed (k : Carried) (old new : List (List ℕ)) (count : ℕ) : Type 0 where
  pub long : length new ≡ count
  pub before : (tx : ℕ) → tx < length old → row_of new tx ≡ row_of old tx
  pub behind : (tx : ℕ) → length old ≤ tx → tx < count → row_of new tx ≡ rival_blocks k tx

-- the first rows, with the places below a block in those up to a number
pub record AreCut (left blocks count : ℕ) (old new : List (List ℕ)) : Type 0 where
  pub long : length new ≡ left
  pub before : (tx : ℕ) → tx < count → row_of new tx ≡ members_below (row_of old tx) blocks
  pub behind : (tx : ℕ) → count ≤ tx → tx < left → row_of new tx ≡ row_of old tx
