-- Which of the words of the command line is a file, and what it is used for.
use Rattle.std.specs.Prelude.{◌≡◌, ℕ, ◌==◌, not, ◌&&◌, if◌then◌else◌, Bool, true, false, List, [], ◌∷◌, length, Option, Some, None, codes}
use Rattle.std.specs.Str.{bytes_eq}
use Rattle.sp_model.specs.declared.profile.Profile.{Profile}
use Rattle.sp_play.specs.Profiles.{profile_of}
use Rattle.spectre.specs.Words.{word_at}
use Rattle.spectre.specs.declared.files.FileUse.{FileUse}
use Rattle.spectre.specs.declared.files.FileUse.TheVariants.{Keep, Fresh, Show, Export}

-- it isn't empty and doesn't begin with `-`
unfoldable pub is_file : List ℕ → Bool
is_file [] = false
is_file (first ∷ rest) = not (first == 45)

-- `node FILE` and `show FILE`
unfoldable pub named_file : List (List ℕ) → Option (List ℕ × FileUse)
named_file words =
    if not (is_file (word_at words 1)) then None else
    if bytes_eq (word_at words 0) (codes "node") then Some (word_at words 1, Keep) else
    if bytes_eq (word_at words 0) (codes "show") then Some (word_at words 1, Show) else None

-- `node --fresh FILE` and `node FILE --fresh`
unfoldable pub fresh_file : List (List ℕ) → Option (List ℕ × FileUse)
fresh_file words =
    if not (bytes_eq (word_at words 0) (codes "node")) then None else
    if bytes_eq (word_at words 1) (codes "--fresh") && is_file (word_at words 2) then Some (word_at words 2, Fresh) else
    if bytes_eq (word_at words 2) (codes "--fresh") && is_file (word_at words 1) then Some (word_at words 1, Fresh) else None

abbrev pub exported_in : List ℕ → Option Profile → Option (List ℕ × FileUse)
exported_in path None = None
exported_in path (Some profile) = Some (path, Export profile)

-- `export FILE N`, N the number of a profile
unfoldable pub exported_file : List (List ℕ) → Option (List ℕ × FileUse)
exported_file words =
    if not (is_file (word_at words 1)) then None else
    exported_in (word_at words 1) (profile_of (word_at words 2))

unfoldable pub third_file : List (List ℕ) → Option (List ℕ × FileUse)
third_file words = if bytes_eq (word_at words 0) (codes "export") then exported_file words else fresh_file words

abbrev pub file_in : List (List ℕ) → Option (List ℕ × FileUse)
file_in words =
    if length words == 2 then named_file words else
    if length words == 3 then third_file words else None

-- the words name a file
abbrev pub names_file : List (List ℕ) → Type 0
names_file words = (path : List ℕ) × (how : FileUse) × (file_in words ≡ Some (path, how))

-- it is made where it isn't there, but for `show` and `export`
abbrev pub makes : FileUse → Bool
makes Keep = true
makes Fresh = true
makes Show = false
makes (Export profile) = false

abbrev pub path_by : Option (List ℕ × FileUse) → Option (List ℕ × Bool)
path_by None = None
path_by (Some file) = Some (file.0, makes file.1)

-- the file of the words, and whether it is made where it isn't there
abbrev pub path_in : List (List ℕ) → Option (List ℕ × Bool)
path_in words = path_by (file_in words)
