-- Why bytes get the answer that they get, in the words of the rules.
use Rattle.std.specs.Prelude.{ℕ, ◌≡◌, ◌+◌, ◌↔◌, true, false, List, [], ◌∷◌, ◌++◌, length}
use Rattle.sp_block.specs.Block.{ReadBlock}
use Rattle.sp_block.specs.Format.{Parts}
use Rattle.sp_block.specs.Spelling.{HasBlockFault, SpellsBlock}
use Rattle.sp_block.specs.declared.fault.BlockFault.{BlockFault}
use Rattle.sp_ids.specs.Bits.{BeginsWithZeros}
use Rattle.sp_ids.specs.Digest.{sha256_number}
use Rattle.sp_model.specs.Graph.{has}
use Rattle.sp_pool.specs.Arrivals.{IsValid}
use Rattle.sp_pool.specs.Kept.{AreKept, present, standing_of}
use Rattle.sp_pool.specs.declared.answers.Standing.TheVariants as standing
use Rattle.sp_engine.specs.Arrivals.{answer_of}
use Rattle.sp_engine.specs.declared.answer.Answer.TheVariants.{Kept, Held, Known, Refused, Full}
use Rattle.sp_engine.specs.declared.answer.Refusal.TheVariants.{Spelling, Work}

-- the bytes spell a block, whose id misses the work
pub record MissesWork (bits : ℕ) (bytes : List ℕ) : Type 0 where
  pub parts : Parts
  pub spells : SpellsBlock bytes false parts
  pub misses : ¬ (BeginsWithZeros (sha256_number bytes) bits)

-- the bytes spell a valid block of this id, which is kept already
pub record IsKnown (bits : ℕ) (kept : List ReadBlock) (bytes : List ℕ) (id : ℕ) : Type 0 where
  pub block : ReadBlock
  pub valid : IsValid bits bytes block
  pub same : block.id ≡ id
  pub known : standing_of kept id ≡ standing.Known

-- the bytes spell a valid block, for which there is no room
pub record FindsNoRoom (bits : ℕ) (kept : List ReadBlock) (bytes : List ℕ) : Type 0 where
  pub block : ReadBlock
  pub valid : IsValid bits bytes block
  pub full : standing_of kept block.id ≡ standing.Full

-- the bytes spell a valid block of this id, which is new and finds room; with it kept, it isn't present
pub record IsHeld (bits : ℕ) (kept : List ReadBlock) (bytes : List ℕ) (id : ℕ) : Type 0 where
  pub block : ReadBlock
  pub valid : IsValid bits bytes block
  pub same : block.id ≡ id
  pub fresh : standing_of kept id ≡ standing.Fresh
  pub absent : has (present (kept ++ block ∷ [])) id ≡ false

-- the bytes spell a valid block of this id, which is new and finds room; with it kept, it is present, and so many
-- blocks more than before are
pub record IsKept (bits : ℕ) (kept : List ReadBlock) (bytes : List ℕ) (id n : ℕ) : Type 0 where
  pub block : ReadBlock
  pub valid : IsValid bits bytes block
  pub same : block.id ≡ id
  pub fresh : standing_of kept id ≡ standing.Fresh
  pub here : has (present (kept ++ block ∷ [])) id ≡ true
  pub grown : length (present (kept ++ block ∷ [])) ≡ length (present kept) + n

-- bytes are refused for a fault exactly where it is their first one
abbrev pub SpellingIsCaused : Type 0
SpellingIsCaused = (bits : ℕ) (kept : List ReadBlock) (bytes : List ℕ) (fault : BlockFault) → (answer_of bits kept bytes ≡ Refused (Spelling fault)) ↔ HasBlockFault bytes false fault

-- they are refused for the work exactly where they spell a block that misses it
abbrev pub WorkIsCaused : Type 0
WorkIsCaused = (bits : ℕ) (kept : List ReadBlock) (bytes : List ℕ) → (answer_of bits kept bytes ≡ Refused Work) ↔ MissesWork bits bytes

-- the answer is Known exactly where they spell a valid block that is kept already
abbrev pub KnownIsCaused : Type 0
KnownIsCaused = (bits : ℕ) (kept : List ReadBlock) (bytes : List ℕ) (id : ℕ) → (answer_of bits kept bytes ≡ Known id) ↔ IsKnown bits kept bytes id

-- it is Full exactly where they spell a valid block that finds no room
abbrev pub FullIsCaused : Type 0
FullIsCaused = (bits : ℕ) (kept : List ReadBlock) (bytes : List ℕ) → (answer_of bits kept bytes ≡ Full) ↔ FindsNoRoom bits kept bytes

-- it is Held exactly where they spell a valid new block that waits
abbrev pub HeldIsCaused : Type 0
HeldIsCaused = (bits : ℕ) (kept : List ReadBlock) (bytes : List ℕ) (id : ℕ) → (answer_of bits kept bytes ≡ Held id) ↔ IsHeld bits kept bytes id

-- it is Kept, with a number, exactly where they spell a valid new block that is present, and so many became so
abbrev pub KeptIsCaused : Type 0
KeptIsCaused = (bits : ℕ) (kept : List ReadBlock) (bytes : List ℕ) (id n : ℕ) → AreKept kept → (answer_of bits kept bytes ≡ Kept id n) ↔ IsKept bits kept bytes id n
