-- A profile by the word that says its number: in a scenario's first line and on the command line.
use Rattle.std.specs.Prelude.{ℕ, List, Option, Some, None, Result, Ok, Err}
use Rattle.sp_model.specs.Profiles.{with_number}
use Rattle.sp_model.specs.declared.profile.Profile.{Profile}
use Rattle.sp_play.specs.Numbers.{number_in}
use Rattle.sp_play.specs.declared.why.Why.{Why}
use Rattle.sp_play.specs.declared.why.Why.TheVariants as why

abbrev pub with_read : Result ℕ Why → Option Profile
with_read (Err flaw) = None
with_read (Ok number) = with_number number

-- the profile whose number a word spells, if it spells one
abbrev pub profile_of : List ℕ → Option Profile
profile_of word = with_read (number_in 1 99 word)

abbrev pub or_number : Option Profile → Result Profile Why
or_number None = Err why.Number
or_number (Some profile) = Ok profile

-- the same, as the judging of a line asks for it
abbrev pub profile_in : List ℕ → Result Profile Why
profile_in word = or_number (profile_of word)
