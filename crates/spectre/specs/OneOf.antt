-- A status is one of some.
use Rattle.std.specs.Prelude.{◌==◌, ◌||◌, Bool, true, false, List, [], ◌∷◌}
use Rattle.spectre.specs.Codes.{code_of}
use Rattle.spectre.specs.declared.status.Status.{Status}

-- its code is that of one of them
abbrev pub is_one_of : Status → List Status → Bool
is_one_of s [] = false
is_one_of s (t ∷ others) = (code_of s == code_of t) || is_one_of s others

abbrev pub Holds : Bool → Type 0
Holds true = Unit {0}
Holds false = ⊥

abbrev pub IsOneOf : Status → List Status → Type 0
IsOneOf s list = Holds (is_one_of s list)
