-- The lines of a watch: what changed, and since when each value stands. Each ends with byte 10; ids stand as hexadecimal
-- digits, numbers are decimal.
use Rattle.std.specs.Prelude.{ℕ, List, [], ◌∷◌, ◌++◌, codes, Option, None, Some, slice_get}
use Rattle.std.specs.Fmt.{decimal}
use Rattle.sp_report.specs.Lines.{state_text, word_text}
use Rattle.sp_report.specs.Naming.{hex_label}
use Rattle.sp_watch.specs.Values.{IsOfKind}
use Rattle.sp_watch.specs.declared.item.Change.{Change}
use Rattle.sp_watch.specs.declared.item.Entry.{Entry}
use Rattle.sp_watch.specs.declared.item.Item.{Item}
use Rattle.sp_watch.specs.declared.item.Item.TheVariants.{Tx, Balance, Vote}
use Rattle.sp_watch.specs.declared.item.Value.{Value}
use Rattle.sp_watch.specs.declared.item.Value.TheVariants.{State, Amount, Word}

-- the words for an item
abbrev pub item_text : Item → List ℕ
item_text (Tx id) = codes "tx " ++ hex_label id
item_text (Balance lock) = codes "balance " ++ hex_label lock
item_text (Vote x y) = codes "vote " ++ hex_label x ++ 32 ∷ [] ++ hex_label y

-- the word or the number for a value
abbrev pub value_text : Value → List ℕ
value_text (State state) = state_text state
value_text (Amount amount) = decimal amount
value_text (Word word) = word_text word

-- an item whose value changed
abbrev pub change_text : Item → Value → Value → List ℕ
change_text item from to = item_text item ++ codes " from " ++ value_text from ++ codes " to " ++ value_text to ++ 10 ∷ []

-- an item with the number of the arrival since which its value stands, and how many arrivals changed it
abbrev pub held_text : Item → ℕ → ℕ → List ℕ
held_text item since changes = codes "held " ++ item_text item ++ codes " since " ++ decimal since ++ codes " changes " ++ decimal changes ++ 10 ∷ []

-- ---- of a watch's items

abbrev pub change_by : Option Entry → Change → List ℕ
change_by None change = []
change_by (Some entry) change = change_text entry.item change.from change.to

-- the line of a change of one of these
abbrev pub change_at : List Entry → Change → List ℕ
change_at entries change = change_by (slice_get entries change.item) change

-- the line of what is noted of an item
abbrev pub held_of : Entry → List ℕ
held_of entry = held_text entry.item entry.since entry.changes

abbrev pub held_by : Option Entry → List ℕ
held_by None = []
held_by (Some entry) = held_of entry

-- the line of what is noted of one of these
abbrev pub held_at : List Entry → ℕ → List ℕ
held_at entries item = held_by (slice_get entries item)

abbrev pub IsOf : Option Entry → Change → Type 0
IsOf None change = Unit {0}
IsOf (Some entry) change = IsOfKind entry.item change.from × IsOfKind entry.item change.to

-- both values of the change are of its item's kind
abbrev pub IsOfItem : List Entry → Change → Type 0
IsOfItem entries change = IsOf (slice_get entries change.item) change
