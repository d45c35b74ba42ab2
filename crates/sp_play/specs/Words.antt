-- The lines of a text and the words of a line.
use Rattle.std.specs.Prelude.{◌≡◌, ℕ, ◌==◌, ◌&&◌, ◌||◌, Bool, List, [], ◌∷◌, Option, Some, None, map, filter, length, not, nat_le, slice_index_or, codes}
use Rattle.std.specs.List.{list_all, slice_split}
use Rattle.std.specs.Str.Lines.{strip_carriage_return}
use Rattle.sp_play.specs.Commands.{is_word}

abbrev pub is_line_end : ℕ → Bool
is_line_end byte = byte == 10

-- a space or a tab
abbrev pub is_blank : ℕ → Bool
is_blank byte = (byte == 32) || (byte == 9)

-- the parts between line ends, each without one byte 13 at its end
abbrev pub lines_of : List ℕ → List (List ℕ)
lines_of text = map strip_carriage_return (slice_split is_line_end text)

-- the lines of what is left of a text
abbrev pub lines_left : Option (List ℕ) → List (List ℕ)
lines_left None = []
lines_left (Some text) = lines_of text

-- the parts between blanks, empty ones too
abbrev pub parts_of : List ℕ → List (List ℕ)
parts_of line = slice_split is_blank line

-- the parts that aren't empty
abbrev pub words_among : List (List ℕ) → List (List ℕ)
words_among parts = filter (λ part. not (length part == 0)) parts

-- the words of a line: its parts between blanks that aren't empty
abbrev pub words_of : List ℕ → List (List ℕ)
words_of line = words_among (parts_of line)

-- the parts of what is left of a line
abbrev pub parts_left : Option (List ℕ) → List (List ℕ)
parts_left None = []
parts_left (Some line) = parts_of line

-- these words begin with this one; where there is none, they are none
abbrev pub BeginsWith : Option (List ℕ) → List (List ℕ) → Type 0
BeginsWith None words = words ≡ []
BeginsWith (Some word) words = (rest : List (List ℕ)) × (words ≡ word ∷ rest)

-- the word at this place
abbrev pub word_at : List (List ℕ) → ℕ → List ℕ
word_at words i = slice_index_or words i []

-- a byte that a line may hold: a tab, a space, or a printed character
abbrev pub is_line_byte : ℕ → Bool
is_line_byte b = (b == 9) || (nat_le 32 b && nat_le b 126)

-- a line without words, or whose first word begins with `#`
unfoldable pub is_skipped : List (List ℕ) → Bool
is_skipped words = (length words == 0) || (slice_index_or (word_at words 0) 0 0 == 35)

-- letters, digits, `_` and `-`
abbrev pub is_name_byte : ℕ → Bool
is_name_byte b =
    (nat_le 97 b && nat_le b 122) || (nat_le 65 b && nat_le b 90) || (nat_le 48 b && nat_le b 57) || (b == 95) || (b == 45)

abbrev pub is_key_word : List ℕ → Bool
is_key_word word =
    is_word (codes "on") word || is_word (codes "carries") word || is_word (codes "spends") word
    || is_word (codes "with") word || is_word (codes "pays") word || is_word (codes "to") word

-- a well-formed name
unfoldable pub is_name : List ℕ → Bool
is_name word = nat_le 1 (length word) && nat_le (length word) 32 && list_all is_name_byte word && not (is_key_word word)
