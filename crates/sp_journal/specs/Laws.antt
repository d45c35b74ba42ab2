-- What the definitions say in other words: which bytes are a journal's.
use Rattle.std.specs.Prelude.{◌≡◌, ◌↔◌, ℕ, List}
use Rattle.sp_form.specs.Bytes.{IsBytes}
use Rattle.sp_journal.specs.Gates.{IsShut}
use Rattle.sp_journal.specs.Journal.{AreContents, Contents, front}
use Rattle.sp_journal.specs.Records.{Found, records}

-- the contents may stand in a journal, and the bytes are all that stands before its closed gate, and that gate
pub record Holds (c : Contents) (list : List ℕ) : Type 0 where
  pub are : AreContents c
  pub shut : IsShut (front c) list

-- bytes hold a journal just where they are so written
abbrev pub JournalIsWritten : Type 0
JournalIsWritten = (c : Contents) (list : List ℕ) → IsBytes list → (records list ≡ Found c) ↔ Holds c list
