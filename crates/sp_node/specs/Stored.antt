-- What the opening of a disk says of what it holds, and how a node starts on it.
use Rattle.std.specs.Prelude.{◌≡◌, ◌≢◌, ◌⊎◌, ℕ, Bool, true, false, List, [], length, IfSome, if◌then◌else◌, Result, Ok, Err}
use Rattle.sp_ids.specs.Digest.{sha256_number}
use Rattle.sp_block.specs.Block.{ReadBlock}
use Rattle.sp_disk.specs.Moments.{Lasts, Leaves, Moment}
use Rattle.sp_feed.specs.Genesis.{ReadHead}
use Rattle.sp_journal.specs.Creation.{HoldsJournal, HoldsNoneOrNew, IsSynced, IsVacant}
use Rattle.sp_journal.specs.Journal.{contents}
use Rattle.sp_journal.specs.Opening.{contents_in, Opening}
use Rattle.sp_journal.specs.Records.{Damaged as damaged, Found as found, records}
use Rattle.sp_journal.specs.Settled.{IsTold}
use Rattle.sp_journal.specs.Writer.{Stands}
use Rattle.sp_journal.specs.declared.fault.JournalFault.{JournalFault}
use Rattle.sp_journal.specs.declared.fault.JournalFault.TheVariants.{NotJournal, Damaged, DiskFault, Memory}
use Rattle.sp_journal.specs.declared.gate_kind.Gate.TheVariants.{Shut}
use Rattle.sp_node.specs.declared.start.StartFault.{StartFault}
use Rattle.sp_node.specs.declared.start.StartFault.TheVariants as starts
use Rattle.sp_node.specs.declared.stored.Stored.{Stored}
use Rattle.sp_node.specs.declared.stored.Stored.TheVariants.{Empty, Found}

-- What is answered is what the bytes hold. No journal is a fault where there are bytes and none may be new.
abbrev pub Tells : Bool → List ℕ → Result Stored JournalFault → Type 0
Tells fresh bytes (Ok (Empty gate)) = IsVacant gate bytes × ((length bytes ≡ 0) ⊎ (fresh ≡ true))
Tells fresh bytes (Ok (Found opened)) = records bytes ≡ found (contents_in opened)
Tells fresh bytes (Err (NotJournal gate)) = IsVacant gate bytes × (length bytes ≢ 0) × (fresh ≡ false)
Tells fresh bytes (Err (Damaged at)) = records bytes ≡ damaged at
Tells fresh bytes (Err DiskFault) = Unit {0}
Tells fresh bytes (Err Memory) = Unit {0}

-- a node may start on the disk
abbrev pub IsReady : Stored → Moment → Type 0
IsReady (Empty gate) m = IfSome m.reads (IsVacant gate) × (gate ≡ Shut → IsSynced m)
IsReady (Found opened) m = IsTold m → Stands opened.journal (contents_in opened) m

-- a fault of the opening, and whether it is one where a new journal is asked for
abbrev pub IsAnew : JournalFault → Bool → Result Stored JournalFault → Type 0
IsAnew (NotJournal gate) fresh result = result ≡ (if fresh then Ok (Empty gate) else Err (NotJournal gate))
IsAnew (Damaged at) fresh result = result ≡ Err (Damaged at)
IsAnew DiskFault fresh result = result ≡ Err DiskFault
IsAnew Memory fresh result = result ≡ Err Memory

-- the blocks that stand in it
abbrev pub stored_blocks : Stored → List ReadBlock
stored_blocks (Empty gate) = []
stored_blocks (Found opened) = opened.blocks

-- a feed's head asks for the profile, the bits and the genesis block of an opened journal
pub record IsSameChain (o : Opening) (head : ReadHead) : Type 0 where
  pub profile : o.profile ≡ head.profile
  pub bits : o.bits ≡ head.bits
  pub genesis : o.genesis.bytes ≡ head.genesis.bytes

-- it does, where a journal was found
abbrev pub IsOfSame : Stored → ReadHead → Type 0
IsOfSame (Empty gate) head = Unit {0}
IsOfSame (Found opened) head = IsSameChain opened head

-- the bits, the ids, which are the digests of the genesis blocks, and the profiles of both
abbrev pub NamesBoth : Stored → ReadHead → StartFault → Type 0
NamesBoth (Empty gate) head fault = ⊥
NamesBoth (Found o) head fault = fault ≡ starts.OtherChain o.bits (sha256_number o.genesis.bytes) o.profile head.bits (sha256_number head.genesis.bytes) head.profile

-- What a start leaves of a disk at each moment: no journal or the new one, where there was none and nothing was
-- pending; and once it leaves nothing but a journal, that lasts. A found journal's disk isn't called.
abbrev pub LeavesStarted : Stored → ReadHead → Moment → Moment → Type 0
LeavesStarted (Empty gate) head old new =
    IsTold old → (IsSynced old → Leaves old new (HoldsNoneOrNew (contents head.profile head.bits head.genesis.bytes []))) × Lasts old new HoldsJournal
LeavesStarted (Found opened) head old new = Unit {0}

abbrev pub IsFound : Stored → Type 0
IsFound (Empty gate) = ⊥
IsFound (Found opened) = Unit {0}
