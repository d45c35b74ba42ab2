-- How a pool keeps its rows: the words of all rows in chunks, and a count for each row that there is. How many free rows stand
-- before a number is known.
use Rattle.std.specs.Prelude.{◌≡◌, ℕ, ◌+◌, ◌*◌, ◌/◌, ◌%◌, ◌^◌, ◌<◌, ◌≤◌, ◌==◌, cond, List, [], ◌∷◌, take, length, slice_index_or, slice_set}
use Rattle.std.specs.List.{sum_by}
use Rattle.sp_rows.specs.declared.free.Free.{Free}
use Rattle.sp_rows.specs.Rows.{row_of, with_row_of}
use Rattle.sp_rows.specs.Pool.{Counted}

-- the words of a row, by its number in all chunks
abbrev pub words_at : List (List ℕ) → ℕ → List ℕ
words_at chunks id = row_of (slice_index_or chunks (id / 256) []) (id % 256)

-- the chunks with eight other words in the place of a row's
abbrev pub with_words_at : List (List ℕ) → ℕ → List ℕ → List (List ℕ)
with_words_at chunks id own = slice_set chunks (id / 256) (with_row_of (slice_index_or chunks (id / 256) []) (id % 256) own)

-- each chunk has all its rows
abbrev pub AreWhole : List (List ℕ) → Type 0
AreWhole chunks = (k : ℕ) → k < length chunks → length (slice_index_or chunks k []) ≡ 2048

-- more chunks follow, and the rows that there were stay
pub record Grows (old new : List (List ℕ)) : Type 0 where
  pub longer : length old ≤ length new
  pub same : (id : ℕ) → id < 256 * length old → words_at new id ≡ words_at old id
  pub whole : AreWhole old → AreWhole new

-- the chunks have the rows that they had, but for one
pub record Differs (old new : List (List ℕ)) (id : ℕ) : Type 0 where
  pub whole : AreWhole new
  pub long : length new ≡ length old
  pub others : (k : ℕ) → (k ≡ id → ⊥) → words_at new k ≡ words_at old k

-- the rows whose count isn't 0, of those that begin with the row `from`
abbrev pub live_rows : (ℕ → List ℕ) → ℕ → List ℕ → List Counted
live_rows words from [] = []
live_rows words from (count ∷ counts) = cond (count == 0) (live_rows words (from + 1) counts) (record { id = from; count = count; words = words from } ∷ live_rows words (from + 1) counts)

-- 1 for a count that isn't 0
abbrev pub one_if : ℕ → ℕ
one_if count = cond (count == 0) 0 1

-- how many of these counts aren't 0
abbrev pub live_of : List ℕ → ℕ
live_of counts = sum_by one_if counts

-- so many rows before `from` aren't counted, none of them before the lowest one
pub record IsFree (counts : List ℕ) (free : Free) : Type 0 where
  pub within : free.from ≤ length counts
  pub passed : free.behind + live_of (take free.from counts) ≡ free.from
  pub lowest : 0 < free.behind → (free.lowest ≤ free.from) × (live_of (take free.lowest counts) ≡ free.lowest)

-- what a pool keeps
pub record IsKept (chunks : List (List ℕ)) (counts : List ℕ) (free : Free) (spare live : ℕ) : Type 0 where
  pub whole : AreWhole chunks
  pub room : length counts ≤ 256 * length chunks
  pub few : length counts ≤ 2 ^ 31
  pub all : live + spare ≡ length counts
  pub counted : live ≡ length (live_rows (words_at chunks) 0 counts)
  pub frees : IsFree counts free
