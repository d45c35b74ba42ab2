-- Reading bytes of which only a front may have come, with the place of a fault in place of its name.
use Rattle.std.specs.Prelude.{ℕ, ◌+◌, List, length, take, drop, Option, Some, None, nat_lt, if◌then◌else◌}
use Rattle.sp_form.specs.Form.{Form, whole, field, first_broken}

-- the bytes from a place on
pub record Input : Type 0 where
  pub at : ℕ
  pub bytes : List ℕ

-- the value and what follows it; the place of the first field that breaks a rule; or the bytes end before
-- either is known
pub data Placed (A : Type 0) : Type 0 where
  Got : A → Input → Placed A
  Faulty : ℕ → Placed A
  Short : Placed A

-- the rest of reading a field at this place, by the first rule that it breaks
abbrev pub unless_broken : {E A : Type 0} → Option E → ℕ → Placed A → Placed A
unless_broken None at found = found
unless_broken (Some fault) at found = Faulty at

-- what the bytes from a place on say
unfoldable pub placed : {E A : Type 0} → Form E A → Input → Placed A
placed (whole x) input = Got x input
placed (field width short rules next) input =
    if nat_lt (length input.bytes) width then Short
    else unless_broken (first_broken (rules (take width input.bytes))) input.at (placed (next (take width input.bytes)) (record { at = input.at + width; bytes = drop width input.bytes }))

-- the next step, where the one before gave a value
abbrev pub go_on : {A B : Type 0} → Placed A → (A → Input → Placed B) → Placed B
go_on (Got x rest) next = next x rest
go_on (Faulty at) next = Faulty at
go_on Short next = Short
