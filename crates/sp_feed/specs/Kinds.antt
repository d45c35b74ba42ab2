-- The kinds of frames: the letter of each, how long its payload may be, and what it says.
use Rattle.std.specs.Prelude.{ℕ, List, [], ◌∷◌, Bool, ◌==◌, nat_le, if◌then◌else◌, Option, Some, None, take, drop}
use Rattle.sp_ids.specs.Key.{number_of}
use Rattle.sp_feed.specs.declared.kind.Kind.{Kind}
use Rattle.sp_feed.specs.declared.kind.Kind.TheVariants.{Block, Vote, Tx, Balance, Pairs, Report, End}

-- a message before the end, without where it lies in memory; ids and locks are numbers
pub data Said : Type 0 where
  SaysBlock : List ℕ → Said
  SaysVote : ℕ → ℕ → Said
  SaysTx : ℕ → Said
  SaysBalance : ℕ → Said
  SaysPairs : Said
  SaysReport : Said

abbrev pub letter : Kind → ℕ
letter Block = 66
letter Vote = 86
letter Tx = 84
letter Balance = 85
letter Pairs = 80
letter Report = 82
letter End = 69

-- a payload of this kind may be so long
abbrev pub allows : Kind → ℕ → Bool
allows Block n = nat_le n 65537
allows Vote n = n == 64
allows Tx n = n == 32
allows Balance n = n == 32
allows Pairs n = n == 0
allows Report n = n == 0
allows End n = n == 0

-- what a payload of this kind says; nothing where it is the end
abbrev pub said : Kind → List ℕ → Option Said
said Block payload = Some (SaysBlock payload)
said Vote payload = Some (SaysVote (number_of (take 32 payload)) (number_of (drop 32 payload)))
said Tx payload = Some (SaysTx (number_of payload))
said Balance payload = Some (SaysBalance (number_of payload))
said Pairs payload = Some SaysPairs
said Report payload = Some SaysReport
said End payload = None

-- the kind of a letter
abbrev pub kind_of : ℕ → Option Kind
kind_of byte =
    if byte == letter Block then Some Block else
    if byte == letter Vote then Some Vote else
    if byte == letter Tx then Some Tx else
    if byte == letter Balance then Some Balance else
    if byte == letter Pairs then Some Pairs else
    if byte == letter Report then Some Report else
    if byte == letter End then Some End else None

-- the messages that a frame adds
abbrev pub messages_of : Option Said → List Said
messages_of None = []
messages_of (Some message) = message ∷ []
