-- What contracts see of one node among others. Contracts of private functions alone cite it.
use Rattle.std.specs.Prelude.{ℕ, List}
use Rattle.sp_block.specs.Block.{ReadBlock}
use Rattle.sp_model.specs.declared.profile.Profile.{Profile}

-- the profile, the bits of work, and the blocks that it keeps
pub record Keeper : Type 0 where
  pub profile : Profile
  pub bits : ℕ
  pub kept : List ReadBlock
