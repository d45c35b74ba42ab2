-- A whole scenario: its lines up to the first fault, and the feed and the names that they stand for.
use Rattle.std.specs.Prelude.{◌≡◌, ℕ, ◌+◌, ◌++◌, if◌then◌else◌, List, [], ◌∷◌, fold, map, Option, Some, None, Result, Ok, Err}
use Rattle.sp_ids.specs.Digest.{sha256_number}
use Rattle.sp_model.specs.declared.profile.Profile.{Profile}
use Rattle.sp_feed.specs.Kinds.{Said, SaysBlock, SaysVote, SaysTx, SaysBalance, SaysPairs, SaysReport}
use Rattle.sp_names.specs.Labels.{AllLabels, no_labels, with_label}
use Rattle.sp_play.specs.Kept.{IsKept}
use Rattle.sp_play.specs.Known.{at_start, Entry, genesis_text, grants_of, is_made, Known, thing_at}
use Rattle.sp_play.specs.Making.{after_line, id_in}
use Rattle.sp_play.specs.Words.{lines_of}
use Rattle.sp_play.specs.declared.saying.Saying.{Saying}
use Rattle.sp_play.specs.declared.saying.Saying.TheVariants as says
use Rattle.sp_play.specs.declared.thing.Thing.{Thing}
use Rattle.sp_play.specs.declared.thing.Thing.TheVariants as kinds
use Rattle.sp_play.specs.declared.why.LineFault.{LineFault}
use Rattle.sp_play.specs.declared.why.Why.{Why}

-- what is known up to the first fault, and that fault
pub record Read : Type 0 where
  pub known : Known
  pub fault : Option LineFault

-- a line's outcome, and then the lines behind it
abbrev pub read_on : ℕ → Known → Result Known Why → (Known → Read) → Read
read_on number known (Ok after) rest = rest after
read_on number known (Err reason) rest = record { known = known; fault = Some (record { line = number; why = reason }) }

-- the lines from one of this number on
unfoldable pub read_from : ℕ → Known → List (List ℕ) → Read
read_from number known [] = record { known = known; fault = None }
read_from number known (line ∷ lines) = read_on number known (after_line known line) (λ after. read_from (number + 1) after lines)

-- the lines of a text
unfoldable pub read : List ℕ → Read
read text = read_from 1 at_start (lines_of text)

-- What lines stand for.

-- a block's bytes, given those of genesis
abbrev pub thing_bytes : List ℕ → Thing → List ℕ
thing_bytes genesis kinds.Genesis = genesis
thing_bytes genesis (kinds.Made bytes) = bytes
thing_bytes genesis (kinds.Tx named) = []

abbrev pub bytes_in : List Entry → Thing → List ℕ
bytes_in entries thing = thing_bytes (genesis_text (grants_of entries)) thing

abbrev pub said_in : Known → Saying → Said
said_in known (says.Block place) = SaysBlock (bytes_in known.entries (thing_at known.entries place))
said_in known (says.Vote x y) = SaysVote (id_in known.entries (thing_at known.entries x)) (id_in known.entries (thing_at known.entries y))
said_in known (says.Tx place) = SaysTx (id_in known.entries (thing_at known.entries place))
said_in known (says.Balance word) = SaysBalance (sha256_number word)
said_in known says.Pairs = SaysPairs
said_in known says.Report = SaysReport

-- the labels with what a name names
abbrev pub label_in : List Entry → Thing → List ℕ → AllLabels → AllLabels
label_in entries kinds.Genesis name labels = record labels { blocks = with_label labels.blocks (id_in entries kinds.Genesis) name }
label_in entries (kinds.Made bytes) name labels = record labels { blocks = with_label labels.blocks (id_in entries (kinds.Made bytes)) name }
label_in entries (kinds.Tx named) name labels = record labels { txs = with_label labels.txs (id_in entries (kinds.Tx named)) name }

abbrev pub with_entry : List Entry → AllLabels → Entry → AllLabels
with_entry entries labels entry = label_in entries entry.1 entry.0 labels

-- the labels of locks, by the words that have them
abbrev pub with_lock : AllLabels → List ℕ → AllLabels
with_lock labels word = record labels { locks = with_label labels.locks (sha256_number word) word }

-- the made blocks, each with its name and its bytes, in order of making
abbrev pub made_by : Entry → List (List ℕ × List ℕ)
made_by entry = if is_made entry.1 then (entry.0, thing_bytes [] entry.1) ∷ [] else []

unfoldable pub made_in : List Entry → List (List ℕ × List ℕ)
made_in [] = []
made_in (entry ∷ entries) = made_by entry ++ made_in entries

pub record Scene : Type 0 where
  pub profile : Profile
  -- the bits of work, and the bytes of the genesis block
  pub bits : ℕ
  pub genesis : List ℕ
  pub names : AllLabels
  pub made : List (List ℕ × List ℕ)
  pub messages : List Said
  pub fault : Option LineFault

abbrev pub names_in : Known → AllLabels
names_in known = fold with_lock (fold (with_entry known.entries) no_labels known.entries) known.words

abbrev pub scene_of : Read → Scene
scene_of r =
    record {
      profile = r.known.profile;
      bits = r.known.bits;
      genesis = genesis_text (grants_of r.known.entries);
      names = names_in r.known;
      made = made_in r.known.entries;
      messages = map (said_in r.known) r.known.sayings;
      fault = r.fault;
    }

-- the meaning of a scenario
abbrev pub scene : List ℕ → Scene
scene text = scene_of (read text)

-- the genesis block that is kept beside what is known, and what is true of that
pub record IsWhole (known : Known) (genesis : List ℕ) (id : ℕ) : Type 0 where
  pub bytes : genesis ≡ genesis_text (grants_of known.entries)
  pub of_bytes : id ≡ sha256_number genesis
  pub kept : IsKept known.bits known.entries
