-- The versions of a feed, by the eight bytes that it begins with: this stem, and the number of its profile.
use Rattle.std.specs.Prelude.{ℕ, List, codes, Option}
use Rattle.sp_model.specs.Profiles as profiles
use Rattle.sp_model.specs.declared.profile.Profile.{Profile}

abbrev pub stem : List ℕ
stem = codes "SPCTRF"

-- a feed of this profile begins so
abbrev pub name : Profile → List ℕ
name profile = profiles.name stem profile

-- the profile of a feed that begins so, if one does
abbrev pub profile_of : List ℕ → Option Profile
profile_of bytes = profiles.with_name stem bytes
