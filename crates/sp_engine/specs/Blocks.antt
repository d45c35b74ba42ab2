-- What a list of bytes is as a block, as a function of the bytes.
use Rattle.std.specs.Prelude.{ℕ, ◌==◌, ◌≡◌, ◌↔◌, nat_lt, Bool, if◌then◌else◌, List, length, Result, Ok, Err}
use Rattle.sp_form.specs.Reading.{read}
use Rattle.sp_block.specs.Block.{block_of, parts_of, ReadBlock}
use Rattle.sp_block.specs.Format.{block_form, Parts}
use Rattle.sp_block.specs.Spelling.{HasBlockFault, SpellsBlock}
use Rattle.sp_block.specs.declared.fault.BlockFault.{BlockFault}
use Rattle.sp_block.specs.declared.fault.BlockFault.TheVariants.{TooLong, Trailing}

-- the parts that stand at the front and nothing behind them, or the first fault
abbrev pub block_by : List ℕ → Result (Parts × List ℕ) BlockFault → Result ReadBlock BlockFault
block_by bytes (Ok found) = if length found.1 == 0 then Ok (block_of bytes found.0) else Err Trailing
block_by bytes (Err fault) = Err fault

-- the block that the bytes spell, as a genesis block or as another one, or their first fault
unfoldable pub block_in : Bool → List ℕ → Result ReadBlock BlockFault
block_in genesis bytes =
    if nat_lt 65536 (length bytes) then Err TooLong else block_by bytes (read (block_form genesis) bytes)

-- so it gives what the bytes spell, and else their first fault
abbrev pub BlockIsSpelled : Type 0
BlockIsSpelled = (genesis : Bool) (bytes : List ℕ) (parts : Parts) → (block_in genesis bytes ≡ Ok (block_of bytes parts)) ↔ SpellsBlock bytes genesis parts

abbrev pub BlockIsWhole : Type 0
BlockIsWhole = (genesis : Bool) (bytes : List ℕ) (block : ReadBlock) → block_in genesis bytes ≡ Ok block → block ≡ block_of bytes (parts_of block)

abbrev pub FaultIsFirst : Type 0
FaultIsFirst = (genesis : Bool) (bytes : List ℕ) (fault : BlockFault) → (block_in genesis bytes ≡ Err fault) ↔ HasBlockFault bytes genesis fault
