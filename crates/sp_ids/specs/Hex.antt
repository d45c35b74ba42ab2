-- What 64 hexadecimal digits stand for, and why a text is no such row.
use Rattle.std.specs.Prelude.{ℕ, ◌+◌, ◌*◌, ◌%◌, ◌==◌, if◌then◌else◌, not, List, length, fold, Option, Some, None, unwrap_or, Result, Ok, Err}
use Rattle.std.specs.List.{position_from}
use Rattle.hex.specs.Hex.{hex_digit_value, is_hex_digit}
use Rattle.sp_ids.specs.declared.hex_fault.HexFault.{HexFault}
use Rattle.sp_ids.specs.declared.hex_fault.HexFault.TheVariants.{OddLength, WrongLength, BadDigit}

-- the number of a row of digits of either case, the first digit the highest
abbrev pub number_of_digits : List ℕ → ℕ
number_of_digits text = fold (λ number digit. number * 16 + unwrap_or (hex_digit_value digit) 0) 0 text

-- the place of the first byte that is no digit, counted from 0
abbrev pub first_bad_digit : List ℕ → Option ℕ
first_bad_digit text = position_from (λ byte. not (is_hex_digit byte)) 0 text

-- the number of a row of digits, if there is no bad one
abbrev pub number_unless : Option ℕ → ℕ → Result ℕ HexFault
number_unless None number = Ok number
number_unless (Some place) number = Err (BadDigit place)

-- the number that a text spells; an odd length is found first, then a wrong one, then the first
-- bad digit
unfoldable pub hex_of : List ℕ → Result ℕ HexFault
hex_of text =
    if length text % 2 == 1 then Err OddLength
    else if length text == 64 then number_unless (first_bad_digit text) (number_of_digits text)
    else Err WrongLength
