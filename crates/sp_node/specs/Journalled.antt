-- The journal of a node's kept blocks, and what a disk holds of them.
use Rattle.std.specs.Prelude.{◌≡◌, ◌⊎◌, false, ℕ, ◌+◌, List, [], ◌∷◌, length, Option, Some, None}
use Rattle.sp_block.specs.Block.{ReadBlock}
use Rattle.sp_disk.specs.Images.{Among}
use Rattle.sp_disk.specs.Moments.{Leaves, Moment}
use Rattle.sp_engine.specs.Arrivals.{kept_after}
use Rattle.sp_feed.specs.Kinds.{Said}
use Rattle.sp_journal.specs.Journal.{Contents, contents}
use Rattle.sp_journal.specs.Prefixes.{journal_of}
use Rattle.sp_journal.specs.Records.{Found, records}
use Rattle.sp_journal.specs.Settled.{IsTold}
use Rattle.sp_journal.specs.Writer.{Stands, Writer}
use Rattle.sp_node.specs.Answers.{kept_then}
use Rattle.sp_node.specs.Terms.{Terms}

-- the journal of the kept blocks, of which genesis is the first
abbrev pub journal_in : Terms → List ReadBlock → Contents
journal_in terms [] = contents terms.profile terms.bits [] []
journal_in terms (genesis ∷ others) = journal_of terms.profile terms.bits genesis others

-- the journal may take a further record, and has one for each kept block but genesis
pub record FitsKept (terms : Terms) (kept : List ReadBlock) (w : Writer) : Type 0 where
  pub live : w.closed ≡ false
  pub profile : w.profile ≡ terms.profile
  pub work : w.bits ≡ terms.bits
  pub count : w.records + 1 ≡ length kept

-- every crash of the disk leaves the journal of the kept blocks
abbrev pub StandsForKept : Terms → List ReadBlock → Writer → Moment → Type 0
StandsForKept terms kept w m = Stands w (journal_in terms kept) m

-- the bytes hold the journal of the blocks that were kept before these bytes arrived, or of those after
abbrev pub HoldsBeforeOrAfter : Terms → List ReadBlock → List ℕ → List ℕ → Type 0
HoldsBeforeOrAfter terms kept bytes list =
    (records list ≡ Found (journal_in terms kept)) ⊎ (records list ≡ Found (journal_in terms (kept_after terms.bits kept bytes)))

-- the same before a message and after it
abbrev pub HoldsThen : Terms → List ReadBlock → Said → List ℕ → Type 0
HoldsThen terms kept said list =
    (records list ≡ Found (journal_in terms kept)) ⊎ (records list ≡ Found (journal_in terms (kept_then terms.bits kept said)))

-- What is said of a node's disk is said where the node has a journal.

abbrev pub FitsOn : Terms → List ReadBlock → Option Writer → Type 0
FitsOn terms kept None = Unit {0}
FitsOn terms kept (Some w) = FitsKept terms kept w

abbrev pub IsKeptOn : Terms → List ReadBlock → Option Writer → Moment → Type 0
IsKeptOn terms kept None m = Unit {0}
IsKeptOn terms kept (Some w) m = IsTold m → StandsForKept terms kept w m

-- a crash at any moment since the old one leaves what has P
abbrev pub LeavesOn : Option Writer → Moment → Moment → (List ℕ → Type 0) → Type 0
LeavesOn None old new P = Unit {0}
LeavesOn (Some w) old new P = IsTold old → Leaves old new P

-- each crash now leaves what has P
abbrev pub HoldsOn : Option Writer → Moment → (List ℕ → Type 0) → Type 0
HoldsOn None m P = Unit {0}
HoldsOn (Some w) m P = IsTold m → Among P m.images
