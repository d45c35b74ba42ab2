-- What contracts see of a certificate, and what is true of each.
use Rattle.std.specs.Prelude.{ℕ, ◌≡◌, ◌≤◌, ◌<◌, All, List, ◌∷◌, length, ℤ}
use Rattle.sp_block.specs.Block.{IsGenesis, IsOther, ReadBlock}
use Rattle.sp_model.specs.Votes.{sgn}
use Rattle.sp_model.specs.declared.profile.Profile.{Profile}

-- the number of a world, and the vote that it gives for each block
pub record Entries : Type 0 where
  pub number : ℕ
  pub votes : List ℤ

pub record Certificate : Type 0 where
  pub profile : Profile
  pub blocks : List ReadBlock
  pub x : ℕ
  pub y : ℕ
  pub sign : ℤ
  pub worlds : List Entries

-- -1, 0 or +1
abbrev pub IsSign : ℤ → Type 0
IsSign v = sgn v ≡ v

-- from 1 to 512 blocks, the first of which is genesis and no other
pub record AreListed (blocks : List ReadBlock) : Type 0 where
  pub genesis : ReadBlock
  pub others : List ReadBlock
  pub first : blocks ≡ genesis ∷ others
  pub is_genesis : IsGenesis genesis
  pub are_other : All IsOther others
  pub few : length blocks ≤ 512

-- a sign for each of so many blocks
pub record AreVotes (n : ℕ) (world : Entries) : Type 0 where
  pub long : length world.votes ≡ n
  pub signs : All IsSign world.votes

pub record IsCertificate (c : Certificate) : Type 0 where
  pub blocks : AreListed c.blocks
  pub sign : IsSign c.sign
  pub some : 0 < length c.worlds
  pub few : length c.worlds ≤ 512
  pub worlds : All (AreVotes (length c.blocks)) c.worlds
