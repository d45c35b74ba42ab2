-- Two ids in words of the command line.
use Rattle.std.specs.Prelude.{ℕ, List, Option, Some, None, Result, Ok, Err}
use Rattle.sp_ids.specs.Hex.{hex_of}
use Rattle.sp_ids.specs.declared.hex_fault.HexFault.{HexFault}

abbrev pub two_ids : Result ℕ HexFault → Result ℕ HexFault → Option (ℕ × ℕ)
two_ids (Ok x) (Ok y) = Some (x, y)
two_ids (Ok x) (Err fault) = None
two_ids (Err fault) y = None

-- two times 64 hexadecimal digits of either case
abbrev pub ids_in : List ℕ → List ℕ → Option (ℕ × ℕ)
ids_in first second = two_ids (hex_of first) (hex_of second)
