-- What becomes of the entries of a view, and of the pool, when an arrival is kept and what was saved of the view is let go.
use Rattle.std.specs.Prelude.{ℕ, ◌≡◌, ◌<◌, ◌≤◌, ◌+◌, ◌⊎◌, List, length, Option, None, Some}
use Rattle.sp_rows.specs.Pool.{Pool}
use Rattle.sp_view.specs.Stored.{count_of, row_of}
use Rattle.sp_view.specs.Views.{entry_at, holds, held}

-- an entry that is saved or isn't, the one that the view has, and the one that it has afterwards: that one, but each row of a
-- saved entry may have the id that it had there
abbrev pub IsHome : Option (ℕ × ℕ) → Option (ℕ × ℕ) → Option (ℕ × ℕ) → Type 0
IsHome None entry entry' = entry' ≡ entry
IsHome (Some saved) None entry' = entry' ≡ None
IsHome (Some saved) (Some entry) None = ⊥
IsHome (Some saved) (Some entry) (Some entry') = ((entry'.0 ≡ entry.0) ⊎ (entry'.0 ≡ saved.0)) × ((entry'.1 ≡ entry.1) ⊎ (entry'.1 ≡ saved.1))

-- each of the two rows has the places in the pool afterwards that the other entry's had before
abbrev pub AreAlike : Pool → Pool → Option (ℕ × ℕ) → Option (ℕ × ℕ) → Type 0
AreAlike before after None None = Unit {0}
AreAlike before after None (Some entry') = ⊥
AreAlike before after (Some entry) None = ⊥
AreAlike before after (Some entry) (Some entry') = (row_of after entry'.0 ≡ row_of before entry.0) × (row_of after entry'.1 ≡ row_of before entry.1)

-- of a row that is counted so often, the entry afterwards holds no more than the one before, or else nobody but the saved one held it, and
-- it is held once
abbrev pub IsOnceHome : ℕ → ℕ → ℕ → ℕ → Type 0
IsOnceHome count saved entry entry' = (entry' ≤ entry) ⊎ ((entry' ≤ 1) × (count ≤ saved))

-- an entry once an arrival is kept, where one was saved
pub record AreRowsHome (before after : Pool) (saved entry entry' : ℕ × ℕ) : Type 0 where
  pub plus : (entry'.0 ≡ entry.0) ⊎ (entry'.0 ≡ saved.0)
  pub minus : (entry'.1 ≡ entry.1) ⊎ (entry'.1 ≡ saved.1)
  pub plus_places : row_of after entry'.0 ≡ row_of before entry.0
  pub minus_places : row_of after entry'.1 ≡ row_of before entry.1
  pub once : (r : ℕ) → IsOnceHome (count_of before r) (holds (Some saved) r) (holds (Some entry) r) (holds (Some entry') r)
  pub counts : (r : ℕ) → count_of after r + (holds (Some entry) r + holds (Some saved) r) ≡ count_of before r + holds (Some entry') r
  pub others : (r : ℕ) → holds (Some saved) r + holds (Some entry) r < count_of before r → row_of after r ≡ row_of before r

-- The entries of a view once an arrival is kept: the same rows, some of which have the ids back that they had before it. What was saved
-- isn't held any more; a row that is held beyond the view and what was saved of it stays.
pub record AreHome (before after : Pool) (saved entries entries' : List (Option (ℕ × ℕ))) : Type 0 where
  pub long : length entries' ≡ length entries
  pub ids : (i : ℕ) → IsHome (entry_at saved i) (entry_at entries i) (entry_at entries' i)
  pub places : (i : ℕ) → AreAlike before after (entry_at entries i) (entry_at entries' i)
  pub once : (r : ℕ) → held entries' r ≤ 1
  pub counts : (r : ℕ) → count_of after r + (held entries r + held saved r) ≡ count_of before r + held entries' r
  pub others : (r : ℕ) → held saved r + held entries r < count_of before r → row_of after r ≡ row_of before r
