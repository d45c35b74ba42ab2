-- What contracts see of a reader: its limit, the bytes taken so far, and where it stands.
use Rattle.std.specs.Prelude.{◌≡◌, ◌≤◌, ℕ, List, Bool, true, false, IsTrue, Option, None}
use Rattle.sp_feed.specs.declared.kind.Kind.{Kind}
use Rattle.sp_feed.specs.declared.phase.Phase.{Phase}
use Rattle.sp_feed.specs.declared.phase.Phase.TheVariants.{Fresh, Ready, Holding, Closed}
use Rattle.sp_feed.specs.Format.{Head, head_of}
use Rattle.sp_feed.specs.Genesis.{ReadHead}
use Rattle.sp_feed.specs.Kinds.{allows, Said, said}

-- before the head; behind it; behind a frame that says this; or behind a fault
pub data Stage : Type 0 where
  AtStart : Stage
  AtFrames : Stage
  Behind : Option Said → Stage
  Dead : Stage

pub record ReaderState : Type 0 where
  pub limit : ℕ
  pub taken : ℕ
  pub stage : Stage

-- a reader of which nothing was asked yet
abbrev pub new_reader : ℕ → ReaderState
new_reader limit = record { limit = limit; taken = 0; stage = AtStart }

abbrev pub stage_of : Phase → Kind → List ℕ → Stage
stage_of Fresh kind payload = AtStart
stage_of Ready kind payload = AtFrames
stage_of Holding kind payload = Behind (said kind payload)
stage_of Closed kind payload = Dead

-- nothing failed yet
abbrev pub is_live : Stage → Bool
is_live AtStart = true
is_live AtFrames = true
is_live (Behind frame) = true
is_live Dead = false

-- the head was read, and nothing failed
abbrev pub is_open : Stage → Bool
is_open AtStart = false
is_open AtFrames = true
is_open (Behind frame) = true
is_open Dead = false

-- a frame was read, and nothing failed
abbrev pub is_behind : Stage → Bool
is_behind AtStart = false
is_behind AtFrames = false
is_behind (Behind frame) = true
is_behind Dead = false

-- what the last frame says
abbrev pub last_of : Stage → Option Said
last_of AtStart = None
last_of AtFrames = None
last_of (Behind frame) = frame
last_of Dead = None

-- the head of the definition, which has the bytes of the genesis block alone
abbrev pub head_in : ReadHead → Head
head_in head = head_of head.profile head.bits head.genesis.bytes

-- nothing is taken before the head
abbrev pub IsUntaken : Phase → ℕ → Type 0
IsUntaken Fresh taken = taken ≡ 0
IsUntaken Ready taken = Unit {0}
IsUntaken Holding taken = Unit {0}
IsUntaken Closed taken = Unit {0}

-- what is true of a reader's fields: its limit, the bytes taken, its phase, the last frame's kind and
-- length, and the length of its buffer
pub record IsReader (limit taken : ℕ) (phase : Phase) (kind : Kind) (n held : ℕ) : Type 0 where
  pub room : held ≡ 65537
  pub within : taken ≤ limit
  pub untaken : IsUntaken phase taken
  pub fits : n ≤ 65537
  pub allowed : IsTrue (allows kind n)
