-- What a script says from its line `nodes` on: how many nodes there are, and what each line asks for, up to the first fault.
use Rattle.std.specs.Prelude.{Bool, ℕ, ◌≤◌, ◌<◌, ◌+◌, ◌==◌, ◌&&◌, if◌then◌else◌, min, nat_le, nat_lt, List, [], ◌∷◌, codes, length, position, slice_index_or, Option, Some, None, Result, Ok, Err}
use Rattle.std.specs.List.{list_all}
use Rattle.sp_play.specs.Commands.{is_word}
use Rattle.sp_play.specs.Numbers.{is_decimal, value_from}
use Rattle.sp_play.specs.Words.{is_line_byte, is_skipped, lines_of, word_at, words_of}
use Rattle.sp_gossip.specs.declared.event.Event.{Event}
use Rattle.sp_gossip.specs.declared.event.Event.TheVariants.{Make, Tell, Deliver}
use Rattle.sp_gossip.specs.declared.script_line.Made.{Made}
use Rattle.sp_gossip.specs.declared.script_line.ScriptLine.{ScriptLine}
use Rattle.sp_gossip.specs.declared.script_line.ScriptLine.TheVariants.{Give, Act, Report}
use Rattle.sp_gossip.specs.declared.script_line.ScriptWhy.{ScriptWhy}
use Rattle.sp_gossip.specs.declared.script_line.ScriptWhy.TheVariants as why

-- go on with what was found, or stop at the first fault
infixl 10 ◌>>=◌
abbrev pub ◌>>=◌ : {A B : Type 0} → Result A ScriptWhy → (A → Result B ScriptWhy) → Result B ScriptWhy
(Ok x) >>= f = f x
(Err e) >>= f = Err e

-- so many words
abbrev pub has_words : ℕ → List (List ℕ) → Result (Unit {0}) ScriptWhy
has_words count words = if length words == count then Ok tt else Err why.Form

-- the number that a word spells; one above 65,535 is read as 65,535
unfoldable pub number_of : List ℕ → Result ℕ ScriptWhy
number_of word = if is_decimal word then Ok (min (value_from 0 word) 65535) else Err why.Number

-- a node of so many
abbrev pub node_of : ℕ → ℕ → Result ℕ ScriptWhy
node_of nodes number = if nat_lt number nodes then Ok number else Err why.Node

abbrev pub number_or_unknown : Option ℕ → Result ℕ ScriptWhy
number_or_unknown None = Err why.Unknown
number_or_unknown (Some number) = Ok number

-- the number of the made block of this name, the first one being 0
unfoldable pub block_named : List Made → List ℕ → Result ℕ ScriptWhy
block_named blocks name = number_or_unknown (position (λ made. is_word made.name name) blocks)

-- the node of `give NODE NAME`
unfoldable pub given_node : ℕ → List (List ℕ) → Result ℕ ScriptWhy
given_node nodes words = has_words 3 words >>= (λ _. number_of (word_at words 1) >>= (λ number. node_of nodes number))

-- `give NODE NAME`
unfoldable pub give_line : ℕ → List Made → List (List ℕ) → Result ScriptLine ScriptWhy
give_line nodes blocks words =
    given_node nodes words >>= (λ node. block_named blocks (word_at words 2) >>= (λ block. Ok (Give node block)))

-- `tell NODE NODE`
unfoldable pub tell_line : ℕ → List (List ℕ) → Result ScriptLine ScriptWhy
tell_line nodes words =
    has_words 3 words >>= (λ _. number_of (word_at words 1) >>= (λ one. number_of (word_at words 2) >>= (λ two. node_of nodes one >>= (λ from. node_of nodes two >>= (λ to. Ok (Act (Tell from to)))))))

-- `deliver K`
unfoldable pub deliver_line : List (List ℕ) → Result ScriptLine ScriptWhy
deliver_line words = has_words 2 words >>= (λ _. number_of (word_at words 1) >>= (λ packet. Ok (Act (Deliver packet))))

-- `report NODE`
unfoldable pub report_line : ℕ → List (List ℕ) → Result ScriptLine ScriptWhy
report_line nodes words = has_words 2 words >>= (λ _. number_of (word_at words 1) >>= (λ number. node_of nodes number >>= (λ node. Ok (Report node))))

-- what a line of these words asks for
unfoldable pub command_line : ℕ → List Made → List (List ℕ) → Result ScriptLine ScriptWhy
command_line nodes blocks words =
    let command = word_at words 0 in
    if is_word (codes "give") command then give_line nodes blocks words else
    (if is_word (codes "tell") command then tell_line nodes words else
    (if is_word (codes "deliver") command then deliver_line words else
    (if is_word (codes "report") command then report_line nodes words else Err why.Command)))

-- a line may hold no other bytes
abbrev pub has_bytes : List ℕ → Result (Unit {0}) ScriptWhy
has_bytes line = if list_all is_line_byte line then Ok tt else Err why.Byte

-- what a line asks for, unless it is skipped
unfoldable pub meaning : ℕ → List Made → List ℕ → Result (Option ScriptLine) ScriptWhy
meaning nodes blocks line =
    if is_skipped (words_of line) then Ok None
    else (has_bytes line >>= (λ _. command_line nodes blocks (words_of line) >>= (λ said. Ok (Some said))))

-- from 1 to 16 nodes
unfoldable pub count_of : List ℕ → Result ℕ ScriptWhy
count_of word =
    if is_decimal word && nat_le 1 (value_from 0 word) && nat_le (value_from 0 word) 16 then Ok (value_from 0 word) else Err why.Number

-- `nodes N`
unfoldable pub nodes_line : List ℕ → Result ℕ ScriptWhy
nodes_line line = has_bytes line >>= (λ _. has_words 2 (words_of line) >>= (λ _. count_of (word_at (words_of line) 1)))

-- what was read: the lines that aren't skipped, each with its number, and the first fault with its line's number
pub record Reading : Type 0 where
  pub lines : List (ℕ × ScriptLine)
  pub fault : Option (ℕ × ScriptWhy)

abbrev pub read_on : ℕ → Result (Option ScriptLine) ScriptWhy → Reading → Reading
read_on number (Ok None) rest = rest
read_on number (Ok (Some said)) rest = record { lines = (number, said) ∷ rest.lines; fault = rest.fault }
read_on number (Err reason) rest = record { lines = []; fault = Some (number, reason) }

-- the lines from one of this number on
unfoldable pub read_from : ℕ → List Made → ℕ → List (List ℕ) → Reading
read_from nodes blocks number [] = record { lines = []; fault = None }
read_from nodes blocks number (line ∷ lines) = read_on number (meaning nodes blocks line) (read_from nodes blocks (number + 1) lines)

-- how many nodes there are, unless that line has a fault, and what was read
pub record Said : Type 0 where
  pub nodes : Option ℕ
  pub reading : Reading

abbrev pub said_by : ℕ → List Made → Result ℕ ScriptWhy → List (List ℕ) → Said
said_by first blocks (Ok nodes) lines = record { nodes = Some nodes; reading = read_from nodes blocks (first + 1) lines }
said_by first blocks (Err reason) lines = record { nodes = None; reading = record { lines = []; fault = Some (first, reason) } }

abbrev pub said_in : ℕ → List Made → List (List ℕ) → Said
said_in first blocks [] = record { nodes = None; reading = record { lines = []; fault = None } }
said_in first blocks (line ∷ lines) = said_by first blocks (nodes_line line) lines

-- what a text says, whose first line is `nodes` and has this number
abbrev pub script : ℕ → List Made → List ℕ → Said
script first blocks text = said_in first blocks (lines_of text)

-- whether its first line begins with the word `nodes`
abbrev pub begins_with_nodes : List ℕ → Bool
begins_with_nodes text = is_word (codes "nodes") (word_at (words_of (slice_index_or (lines_of text) 0 [])) 0)

-- how many lines may be left at most
abbrev pub room : Option (List ℕ) → ℕ
room None = 0
room (Some text) = length text + 1

-- from 1 to 16 nodes
pub record IsCount (nodes : ℕ) : Type 0 where
  pub some : 1 ≤ nodes
  pub few : nodes ≤ 16

-- an event is one of so many nodes
abbrev pub IsAmong : ℕ → Event → Type 0
IsAmong nodes (Make node bytes) = node < nodes
IsAmong nodes (Tell from to) = (from < nodes) × (to < nodes)
IsAmong nodes (Deliver packet) = Unit {0}

-- a line names one of so many nodes, and one of so many made blocks
abbrev pub AsksAmong : ℕ → ℕ → ScriptLine → Type 0
AsksAmong nodes blocks (Give node block) = (node < nodes) × (block < blocks)
AsksAmong nodes blocks (Act event) = IsAmong nodes event
AsksAmong nodes blocks (Report node) = node < nodes

abbrev pub HasNumbers : ℕ → ℕ → ℕ × ScriptLine → Type 0
HasNumbers nodes blocks line = AsksAmong nodes blocks line.1
