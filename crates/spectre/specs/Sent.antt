-- The feed of blocks that are sent one after another.
use Rattle.std.specs.Prelude.{ℕ, List, map}
use Rattle.sp_block.specs.Block.{ReadBlock}
use Rattle.sp_feed.specs.Format.{head_of}
use Rattle.sp_feed.specs.Kinds.{Said, SaysBlock}
use Rattle.sp_feed.specs.Spelling.{written}
use Rattle.sp_model.specs.declared.profile.Profile.{Profile}

-- the message of a block
abbrev pub said_block : ReadBlock → Said
said_block block = SaysBlock block.bytes

-- a head with this genesis block, and the messages of the blocks behind it
unfoldable pub blocks_text : Profile → ℕ → List ℕ → List ReadBlock → List ℕ
blocks_text profile bits genesis blocks = written (head_of profile bits genesis) (map said_block blocks)
