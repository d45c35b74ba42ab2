-- What contracts see of a feed's head.
use Rattle.std.specs.Prelude.{ℕ, ◌≤◌}
use Rattle.sp_block.specs.Block.{IsGenesis, ReadBlock}
use Rattle.sp_model.specs.declared.profile.Profile.{Profile}

-- the profile, the bits of work that are asked for, and the genesis block
pub record ReadHead : Type 0 where
  pub profile : Profile
  pub bits : ℕ
  pub genesis : ReadBlock

-- what is true of each head that was read
pub record IsHead (head : ReadHead) : Type 0 where
  pub bits : head.bits ≤ 64
  pub genesis : IsGenesis head.genesis
