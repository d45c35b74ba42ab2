-- What a list of bytes holds as a journal: none, one that is damaged at a place, or a profile, a bit count, a
-- genesis block and the blocks before the first closed gate.
use Rattle.std.specs.Prelude.{false, ℕ, zero, suc, ◌+◌, ◌==◌, not, Bool, List, [], ◌∷◌, length, if◌then◌else◌, Result, Ok, Err}
use Rattle.sp_form.specs.Reading.{read}
use Rattle.sp_journal.specs.Format.{Flaw, Head, head_form, record_form, set}
use Rattle.sp_journal.specs.Journal.{Contents, contents, first_ids, head_text, record_text}
use Rattle.sp_journal.specs.Judged.{is_record, with_id}

-- the records up to the first closed gate; or the place of a gate where they are damaged
pub data Rows : Type 0 where
  Sound : List (List ℕ) → Rows
  Faulty : ℕ → Rows

-- a gate stands there, and it is closed
abbrev pub is_shut : List ℕ → Bool
is_shut [] = false
is_shut (gate ∷ rest) = not (gate == set)

abbrev pub row_first : List ℕ → Rows → Rows
row_first bytes (Sound blocks) = Sound (bytes ∷ blocks)
row_first bytes (Faulty at) = Faulty at

-- the record whose gate stands at a place, and then more
abbrev pub row_then : ℕ → List ℕ → ℕ → Result (List ℕ × List ℕ) Flaw → (List ℕ → List ℕ → Rows) → Rows
row_then bits ids at (Err flaw) more = Faulty at
row_then bits ids at (Ok found) more = if is_record bits ids found.0 then row_first found.0 (more found.0 found.1) else Faulty at

-- the records from a place on, at most so many
unfoldable pub rows : ℕ → ℕ → List ℕ → ℕ → List ℕ → Rows
rows zero bits ids at list = if is_shut list then Sound [] else Faulty at
rows (suc room) bits ids at list =
    if is_shut list then Sound []
    else row_then bits ids at (read record_form list) (λ bytes rest. rows room bits (with_id ids bytes) (at + length (record_text bytes)) rest)

pub data Records : Type 0 where
  NoJournal : Records
  Damaged : ℕ → Records
  Found : Contents → Records

abbrev pub records_by : Head → Rows → Records
records_by head (Sound blocks) = Found (contents head.profile head.bits head.genesis blocks)
records_by head (Faulty at) = Damaged at

abbrev pub records_of : Result (Head × List ℕ) Flaw → Records
records_of (Err flaw) = NoJournal
records_of (Ok found) = records_by found.0 (rows 511 found.0.bits (first_ids found.0.genesis) (length (head_text found.0)) found.1)

-- what the whole list holds
unfoldable pub records : List ℕ → Records
records list = records_of (read head_form list)
