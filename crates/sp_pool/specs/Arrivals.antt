-- The kept blocks over the bytes of all arrivals.
use Rattle.std.specs.Prelude.{ℕ, ◌≡◌, false, List, [], ◌∷◌}
use Rattle.sp_block.specs.Block.{block_of, parts_of, ReadBlock}
use Rattle.sp_block.specs.Spelling.{SpellsBlock}
use Rattle.sp_ids.specs.Bits.{BeginsWithZeros}
use Rattle.sp_pool.specs.Kept.{kept_of}

-- the bytes spell this block, which isn't genesis and whose id meets the work
pub record IsValid (bits : ℕ) (bytes : List ℕ) (block : ReadBlock) : Type 0 where
  pub spells : SpellsBlock bytes false (parts_of block)
  pub whole : block ≡ block_of bytes (parts_of block)
  pub work : BeginsWithZeros block.id bits

-- the blocks of the valid arrivals, in their order
pub data AreValid (bits : ℕ) : List (List ℕ) → List ReadBlock → Type 0 where
  none : AreValid bits [] []
  valid : (bytes : List ℕ) (block : ReadBlock) (arrivals : List (List ℕ)) (blocks : List ReadBlock) → IsValid bits bytes block → AreValid bits arrivals blocks → AreValid bits (bytes ∷ arrivals) (block ∷ blocks)
  invalid : (bytes : List ℕ) (arrivals : List (List ℕ)) (blocks : List ReadBlock) → ((block : ReadBlock) → ¬ (IsValid bits bytes block)) → AreValid bits arrivals blocks → AreValid bits (bytes ∷ arrivals) blocks

-- genesis, and each valid arrival whose id is none of those before it, until 512 blocks stand
pub record AreKeptOf (genesis : ReadBlock) (bits : ℕ) (arrivals : List (List ℕ)) (kept : List ReadBlock) : Type 0 where
  pub blocks : List ReadBlock
  pub valid : AreValid bits arrivals blocks
  pub are : kept ≡ kept_of genesis blocks
