-- What is said of blocks that are given by their numbers in the order of presence.
use Rattle.std.specs.Prelude.{ℕ, ◌≡◌, if◌then◌else◌, List, map, Option, Some, None, slice_get}
use Rattle.sp_block.specs.Block.{ReadBlock}
use Rattle.sp_model.specs.Graph.{has}
use Rattle.sp_model.specs.declared.profile.Profile.{Profile}
use Rattle.sp_model.specs.declared.word.Word.{Word}
use Rattle.sp_model.specs.declared.word.Word.TheVariants.{Absent}
use Rattle.sp_engine.specs.Presence.{order_of}
use Rattle.sp_pool.specs.Kept.{present}
use Rattle.spectre.specs.Summary.{pair_word}

-- the id of the present block of a number
abbrev pub id_of : List ReadBlock → ℕ → Option ℕ
id_of kept number = slice_get (order_of kept) number

-- an id, if it is that of a present block
abbrev pub if_present : List ReadBlock → ℕ → Option ℕ
if_present kept id = if has (present kept) id then Some id else None

-- the numbers of these blocks; one that isn't present has a number that no block has
abbrev pub AreNumbers : List ReadBlock → List ℕ → List ℕ → Type 0
AreNumbers kept ids numbers = map (id_of kept) numbers ≡ map (if_present kept) ids

-- what all present blocks say of two ids
abbrev pub said_of : Profile → List ReadBlock → Option ℕ → Option ℕ → Word
said_of profile kept (Some x) (Some y) = pair_word profile kept (x, y)
said_of profile kept (Some x) None = Absent
said_of profile kept None y = Absent

-- what they say of a pair of numbers
abbrev pub number_word : Profile → List ReadBlock → ℕ × ℕ → Word
number_word profile kept pair = said_of profile kept (id_of kept pair.0) (id_of kept pair.1)
