-- What a chain's blocks are kept and its questions answered by: the profile and the bits of work.
use Rattle.std.specs.Prelude.{ℕ}
use Rattle.sp_model.specs.declared.profile.Profile.{Profile}
use Rattle.sp_engine.specs.Engine.{Ledger}

pub record Terms : Type 0 where
  pub profile : Profile
  pub bits : ℕ

abbrev pub terms_of : Profile → ℕ → Terms
terms_of profile bits = record { profile = profile; bits = bits }

-- those of an engine
abbrev pub terms_in : Ledger → Terms
terms_in engine = terms_of engine.profile engine.bits
