-- What contracts see of an id: its 32 bytes as one number, the first byte the highest.
use Rattle.std.specs.Prelude.{ℕ, zero, suc, ◌+◌, ◌*◌, ◌/◌, ◌%◌, ◌<◌, ◌≡◌, List, [], ◌∷◌, length, reverse, slice_index}

-- the number of a list of bytes, the lowest byte first
abbrev pub number_up : List ℕ → ℕ
number_up [] = 0
number_up (byte ∷ bytes) = number_up bytes * 256 + byte

-- so many bytes of a number, the lowest byte first
abbrev pub bytes_up : ℕ → ℕ → List ℕ
bytes_up zero number = []
bytes_up (suc count) number = (number % 256) ∷ bytes_up count (number / 256)

-- the number of a list of bytes, the highest byte first
unfoldable pub number_of : List ℕ → ℕ
number_of bytes = number_up (reverse bytes)

-- the 32 bytes of a number, the highest byte first
unfoldable pub bytes_of : ℕ → List ℕ
bytes_of number = reverse (bytes_up 32 number)

-- the bytes of an id: 32 of them, each below 256
pub record AreBytes (bytes : List ℕ) : Type 0 where
  pub long : length bytes ≡ 32
  pub small : (k : ℕ) → k < 32 → slice_index bytes k < 256
