-- The bits of an id, each byte read from its highest bit.
use Rattle.std.specs.Prelude.{◌≡◌, ℕ, ◌<◌, ◌-◌, ◌/◌, ◌%◌, ◌^◌, List, slice_index}
use Rattle.sp_ids.specs.Key.{bytes_of}

-- the bit at a place, counted from 0
abbrev pub bit_at : List ℕ → ℕ → ℕ
bit_at bytes place = slice_index bytes (place / 8) / 2 ^ (7 - place % 8) % 2

-- the first bits of an id are zero
abbrev pub BeginsWithZeros : ℕ → ℕ → Type 0
BeginsWithZeros id bits = (place : ℕ) → place < bits → bit_at (bytes_of id) place ≡ 0
