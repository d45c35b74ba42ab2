-- The versions of a journal, by the eight bytes behind its first gate: this stem, and the number of its profile.
use Rattle.std.specs.Prelude.{ℕ, List, codes, Option}
use Rattle.sp_model.specs.Profiles as profiles
use Rattle.sp_model.specs.declared.profile.Profile.{Profile}

abbrev pub stem : List ℕ
stem = codes "SPCTRJ"

-- a journal of this profile is named so
abbrev pub name : Profile → List ℕ
name profile = profiles.name stem profile

-- the profile of a journal that is named so, if one is
abbrev pub profile_of : List ℕ → Option Profile
profile_of bytes = profiles.with_name stem bytes
