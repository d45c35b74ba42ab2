-- How a profile is called: its number, and the names that are made of it. The one table of profiles
-- beside the rule on ties.
use Rattle.std.specs.Prelude.{ℕ, ◌+◌, ◌==◌, List, [], ◌∷◌, ◌++◌, if◌then◌else◌, Option, Some, None, ◌/◌, ◌%◌}
use Rattle.std.specs.Str.{bytes_eq}
use Rattle.sp_model.specs.declared.profile.Profile.{Profile}
use Rattle.sp_model.specs.declared.profile.Profile.TheVariants.{One, Two}

-- the number of a profile, from 1 to 99
abbrev pub number : Profile → ℕ
number One = 1
number Two = 2

-- the profile of a number, if one has it
abbrev pub with_number : ℕ → Option Profile
with_number n =
    if n == number One then Some One else
    if n == number Two then Some Two else None

-- the name behind a stem: the number in two decimal digits
abbrev pub name : List ℕ → Profile → List ℕ
name stem profile = stem ++ (48 + number profile / 10) ∷ (48 + number profile % 10) ∷ []

-- the profile of a name behind this stem, if one has it
abbrev pub with_name : List ℕ → List ℕ → Option Profile
with_name stem bytes =
    if bytes_eq bytes (name stem One) then Some One else
    if bytes_eq bytes (name stem Two) then Some Two else None
