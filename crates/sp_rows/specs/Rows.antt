-- Rows of eight words in a chunk of 256.
use Rattle.std.specs.Prelude.{ℕ, ◌+◌, ◌*◌, List, ◌++◌, take, drop}
use Rattle.std.specs.List.{refill}

-- the words of a row
abbrev pub row_of : List ℕ → ℕ → List ℕ
row_of words row = take 8 (drop (8 * row) words)

-- the chunk's words, with eight others in the place of a row's
abbrev pub with_row_of : List ℕ → ℕ → List ℕ → List ℕ
with_row_of words row own = take (8 * row) words ++ (refill 8 (row_of words row) own ++ drop (8 * row + 8) words)
