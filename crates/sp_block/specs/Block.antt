-- A block that was read, without where it lies in memory.
use Rattle.std.specs.Prelude.{◌≡◌, false, true, ℕ, Bool, List}
use Rattle.sp_form.specs.Bytes.{IsBytes}
use Rattle.sp_ids.specs.Digest.{sha256_number}
use Rattle.sp_tx.specs.Parts.{Transaction}
use Rattle.sp_block.specs.Format.{of_parts, Parts}
use Rattle.sp_block.specs.Spelling.{SpellsBlock}

pub record ReadBlock : Type 0 where
  pub id : ℕ
  pub bytes : List ℕ
  pub salt : ℕ
  pub nonce : ℕ
  pub parents : List ℕ
  pub txs : List Transaction

abbrev pub parts_of : ReadBlock → Parts
parts_of b = of_parts b.salt b.nonce b.parents b.txs

-- the block that has these bytes and these parts
abbrev pub block_of : List ℕ → Parts → ReadBlock
block_of bytes p = record { id = sha256_number bytes; bytes = bytes; salt = p.salt; nonce = p.nonce; parents = p.parents; txs = p.txs }

-- Its bytes spell its parts, as those of genesis or not, and its id is their SHA-256.
pub record IsBlock (b : ReadBlock) : Type 0 where
  pub bytes : IsBytes b.bytes
  pub genesis : Bool
  pub spells : SpellsBlock b.bytes genesis (parts_of b)
  pub id : b.id ≡ sha256_number b.bytes

-- its bytes spell a genesis block
abbrev pub IsGenesis : ReadBlock → Type 0
IsGenesis b = SpellsBlock b.bytes true (parts_of b)

-- its bytes spell another block
abbrev pub IsOther : ReadBlock → Type 0
IsOther b = SpellsBlock b.bytes false (parts_of b)
