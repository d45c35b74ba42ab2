-- Which bytes spell a block, and which ids meet the work, as tests: formats and functions of bytes ask by these.
use Rattle.std.specs.Prelude.{◌↔◌, false, ℕ, ◌==◌, ◌&&◌, nat_le, Bool, List, length, Result, Ok, Err, IsTrue}
use Rattle.std.specs.List.{list_all, range_with_len}
use Rattle.sp_form.specs.Reading.{read}
use Rattle.sp_ids.specs.Bits.{BeginsWithZeros, bit_at}
use Rattle.sp_ids.specs.Key.{bytes_of}
use Rattle.sp_block.specs.Format.{block_form, Parts}
use Rattle.sp_block.specs.Spelling.{SpellsBlock}
use Rattle.sp_block.specs.declared.fault.BlockFault.{BlockFault}

abbrev pub is_read_to_end : Result (Parts × List ℕ) BlockFault → Bool
is_read_to_end (Ok found) = length found.1 == 0
is_read_to_end (Err fault) = false

-- the bytes spell a block, as a genesis block or as another one
unfoldable pub is_block : Bool → List ℕ → Bool
is_block genesis bytes = nat_le (length bytes) 65536 && is_read_to_end (read (block_form genesis) bytes)

-- so they spell the parts of one, and those that do are read so
abbrev pub BlockIsSpelled : Type 0
BlockIsSpelled = (genesis : Bool) (bytes : List ℕ) → IsTrue (is_block genesis bytes) ↔ ((parts : Parts) × SpellsBlock bytes genesis parts)

-- the first bits of the id are zero
unfoldable pub meets : ℕ → ℕ → Bool
meets id bits = list_all (λ place. bit_at (bytes_of id) place == 0) (range_with_len 0 bits)

-- the test of an id is that its first bits are zero
abbrev pub WorkIsMet : Type 0
WorkIsMet = (id bits : ℕ) → IsTrue (meets id bits) ↔ BeginsWithZeros id bits
