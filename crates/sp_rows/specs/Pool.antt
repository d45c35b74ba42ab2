-- Counted rows, as contracts see them: the live rows by ascending id, and how many more can be taken.
use Rattle.std.specs.Prelude.{◌≡◌, ℕ, ◌+◌, ◌-◌, ◌<◌, ◌≤◌, ◌==◌, cond, nat_lt, List, [], ◌∷◌, length, filter, not, replicate}
use Rattle.std.specs.List.{refill}

-- a live row
pub record Counted : Type 0 where
  pub id : ℕ
  pub count : ℕ
  pub words : List ℕ

pub record Pool : Type 0 where
  pub rows : List Counted
  pub spare : ℕ

-- the count of a row, 0 where it isn't live
abbrev pub count_of : List Counted → ℕ → ℕ
count_of [] id = 0
count_of (row ∷ rows) id = cond (row.id == id) row.count (count_of rows id)

-- the words of a live row
abbrev pub words_of : List Counted → ℕ → List ℕ
words_of [] id = []
words_of (row ∷ rows) id = cond (row.id == id) row.words (words_of rows id)

-- whether a row is live
abbrev pub IsLive : List Counted → ℕ → Type 0
IsLive rows id = 0 < count_of rows id

-- the rows with this one at its place, instead of the one of its id
abbrev pub with_row : List Counted → Counted → List Counted
with_row [] new = new ∷ []
with_row (row ∷ rows) new = cond (nat_lt new.id row.id) (new ∷ row ∷ rows) (cond (row.id == new.id) (new ∷ rows) (row ∷ with_row rows new))

-- the rows without that of the id
abbrev pub without_row : List Counted → ℕ → List Counted
without_row rows id = filter (λ row. not (row.id == id)) rows

-- the rows with another count of a live one
abbrev pub with_count : List Counted → ℕ → ℕ → List Counted
with_count rows id count = with_row rows (record { id = id; count = count; words = words_of rows id })

-- the rows with other words of a live one
abbrev pub with_words : List Counted → ℕ → List ℕ → List Counted
with_words rows id words = with_row rows (record { id = id; count = count_of rows id; words = words })

-- the pool once a row is taken that wasn't live, and has these words then
abbrev pub taken_with : Pool → ℕ → List ℕ → Pool
taken_with pool id words = record { rows = with_row pool.rows (record { id = id; count = 1; words = words }); spare = pool.spare - 1 }

-- the pool once a row is taken that is all zero
abbrev pub taken : Pool → ℕ → Pool
taken pool id = taken_with pool id (replicate 8 0)

-- the pool once a row is given: the last one that has it gives it back
abbrev pub given : Pool → ℕ → Pool
given pool id = cond (count_of pool.rows id == 1)
    (record { rows = without_row pool.rows id; spare = pool.spare + 1 })
    (record { rows = with_count pool.rows id (count_of pool.rows id - 1); spare = pool.spare })

-- the pool with other words of a live row, of which there are eight
abbrev pub overwritten : Pool → ℕ → List ℕ → Pool
overwritten pool id words = record { rows = with_words pool.rows id (refill 8 (words_of pool.rows id) words); spare = pool.spare }

-- what the rows of each pool are: their ids ascend from `from` on, each is counted at least once, and has eight words
abbrev pub AreRows : ℕ → List Counted → Type 0
AreRows from [] = Unit {0}
AreRows from (row ∷ rows) = (from ≤ row.id) × (0 < row.count) × (length row.words ≡ 8) × AreRows (row.id + 1) rows
