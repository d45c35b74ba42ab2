-- How the answering of a feed by a node with a journal can end, before its status is known.
use Rattle.std.specs.Prelude.{◌≡◌, ◌⊎◌, ℕ, List, [], ◌∷◌, ◌++◌, length, Option, Some, None, IsSome, false, true, IfSome, Result, Ok, Err}
use Rattle.std.specs.Io.KnownBytes.{IsAtEnd}
use Rattle.sp_io.specs.Causes.{Rose}
use Rattle.sp_block.specs.Block.{ReadBlock}
use Rattle.sp_disk.specs.Images.{Among}
use Rattle.sp_disk.specs.Moments.{Lasts, Leaves, Looks, Moment as DiskMoment}
use Rattle.sp_engine.specs.Arrivals.{kept_by_all}
use Rattle.sp_engine.specs.Blocks.{block_in}
use Rattle.sp_feed.specs.Feed.{Malformed, no_head, TooLong, Truncated}
use Rattle.sp_feed.specs.Format.{Head, head_of}
use Rattle.sp_feed.specs.Calls.{GivesHead}
use Rattle.sp_feed.specs.Genesis.{ReadHead}
use Rattle.sp_feed.specs.Reader.{head_in}
use Rattle.sp_feed.specs.Reads.{Moment, Took}
use Rattle.sp_feed.specs.declared.fault.FeedFault.TheVariants as faults
use Rattle.sp_feed.specs.declared.fault.HeadFault.{HeadFault}
use Rattle.sp_feed.specs.declared.fault.HeadFault.TheVariants as heads
use Rattle.sp_ids.specs.Digest.{sha256_number}
use Rattle.sp_journal.specs.Creation.{HoldsJournal, HoldsNoneOrNew, IsSynced}
use Rattle.sp_journal.specs.Journal.{contents}
use Rattle.sp_journal.specs.Opening.{contents_in}
use Rattle.sp_journal.specs.Records.{Found as found, NoJournal, Records, records}
use Rattle.sp_journal.specs.Settled.{IsTold}
use Rattle.sp_node.specs.Journalled.{IsKeptOn}
use Rattle.sp_node.specs.Node.{State}
use Rattle.sp_node.specs.Terms.{Terms, terms_of}
use Rattle.sp_node.specs.Stored.{IsFound, IsOfSame, LeavesStarted, stored_blocks}
use Rattle.sp_node.specs.declared.start.StartFault.{StartFault}
use Rattle.sp_node.specs.declared.start.StartFault.TheVariants as starts
use Rattle.sp_node.specs.declared.stored.Stored.{Stored}
use Rattle.sp_node.specs.declared.stored.Stored.TheVariants.{Empty, Found}
use Rattle.spectre.specs.Chains.{EndAtHead}
use Rattle.spectre.specs.Crashes.{all_of, contents_of, HoldsAcknowledged, HoldsAtLeast, HoldsFoundOrMore}
use Rattle.spectre.specs.Journals.{blocks_in, IsChainOf, other_chain_text}
use Rattle.spectre.specs.Replay.{fed, feed_limit}
use Rattle.spectre.specs.Replaying.{OnAll, Replies}
use Rattle.spectre.specs.Taken.{AreAnswered, AreNeeded}
use Rattle.spectre.specs.declared.keep.KeepFault.{KeepFault}
use Rattle.spectre.specs.declared.keep.KeepFault.TheVariants.{Feed, OtherChain, WriteFault, DiskFault, Memory}
use Rattle.spectre.specs.declared.replay.ReplayFault.{ReplayFault}
use Rattle.spectre.specs.declared.replay.ReplayFault.TheVariants as replays

-- the faults of the head, of the start and of the messages

abbrev pub of_head : HeadFault → KeepFault
of_head (heads.Feed fault) = Feed fault
of_head heads.Memory = Memory

abbrev pub of_start : StartFault → KeepFault
of_start (starts.OtherChain stored_bits stored stored_profile fed_bits fed_id fed_profile) = OtherChain stored_bits stored stored_profile fed_bits fed_id fed_profile
of_start starts.DiskFault = DiskFault
of_start starts.Memory = Memory

abbrev pub of_rest : ReplayFault → KeepFault
of_rest (replays.Feed fault) = Feed fault
of_rest replays.WriteFault = WriteFault
of_rest replays.DiskFault = DiskFault
of_rest replays.Memory = Memory

abbrev pub of_answers : Result (Unit {0}) ReplayFault → Result (Unit {0}) KeepFault
of_answers (Ok u) = Ok u
of_answers (Err fault) = Err (of_rest fault)

-- the line of another chain
abbrev pub other_text : KeepFault → List ℕ
other_text (OtherChain stored_bits stored stored_profile fed_bits fed_id fed_profile) = other_chain_text stored_bits stored stored_profile fed_bits fed_id fed_profile
other_text other = []

-- what was found, and the bytes of its blocks
abbrev pub records_in : Stored → Records
records_in (Empty gate) = NoJournal
records_in (Found opened) = found (contents_in opened)

abbrev pub bytes_of : Stored → List (List ℕ)
bytes_of stored = blocks_in (records_in stored)

-- the head is whole, and asks for the chain of a found journal
abbrev pub FitsStored : Stored → Option Head → Type 0
FitsStored stored None = ⊥
FitsStored (Empty gate) (Some head) = Unit {0}
FitsStored (Found opened) (Some head) = IsChainOf (contents_in opened) head

-- the fault names the chain of the journal and that of the head
abbrev pub NamesBothOf : Stored → Head → KeepFault → Type 0
NamesBothOf (Empty gate) head fault = ⊥
NamesBothOf (Found o) head fault = fault ≡ OtherChain o.bits (sha256_number o.genesis.bytes) o.profile head.bits (sha256_number head.genesis) head.profile

-- the head is whole and asks for another chain
pub record IsOfOther (stored : Stored) (given : List ℕ) (fault : KeepFault) : Type 0 where
  pub head : Head
  pub whole : (more : List ℕ) → (fed (given ++ more)).head ≡ Some head
  pub other : FitsStored stored (Some head) → ⊥
  pub names : NamesBothOf stored head fault

-- The disk failed in the creation of a journal.
pub record IsAmiss (given : List ℕ) (first last : DiskMoment) : Type 0 where
  pub terms : Terms
  pub genesis : ReadBlock
  pub spelled : block_in true genesis.bytes ≡ Ok genesis
  pub whole : (more : List ℕ) → (fed (given ++ more)).head ≡ Some (head_of terms.profile terms.bits genesis.bytes)
  pub unread : all_of given ≡ []
  pub leaves : IsTold first → IsSynced first → Leaves first last (HoldsNoneOrNew (contents terms.profile terms.bits genesis.bytes []))
  pub lasts : IsTold first → Lasts first last HoldsJournal

abbrev pub IsAmissOn : Stored → List ℕ → DiskMoment → DiskMoment → Type 0
IsAmissOn (Empty gate) given first last = IsAmiss given first last
IsAmissOn (Found opened) given first last = ⊥

-- no message was read, since the head is at fault, or its source, or no node was started
abbrev pub UntriedBy : Stored → Moment → Moment → List ℕ → DiskMoment → DiskMoment → Result (Unit {0}) KeepFault → Type 0
UntriedBy stored start now given first last (Ok u) = ⊥
UntriedBy stored start now given first last (Err (Feed (faults.Malformed at))) = ((more : List ℕ) → fed (given ++ more) ≡ no_head (Malformed at)) × Looks first last
UntriedBy stored start now given first last (Err (Feed (faults.Truncated at))) = (fed given ≡ no_head (Truncated at)) × IsAtEnd now.left × Looks first last
UntriedBy stored start now given first last (Err (Feed faults.ReadFault)) = (fed given ≡ no_head (Truncated now.taken)) × Rose start.faults now.faults × Looks first last
UntriedBy stored start now given first last (Err (Feed (faults.TooLong taken))) = ((more : List ℕ) → fed (given ++ more) ≡ no_head (TooLong taken)) × Looks first last
UntriedBy stored start now given first last (Err (OtherChain a b p c d q)) = IsOfOther stored given (OtherChain a b p c d q) × Looks first last
UntriedBy stored start now given first last (Err WriteFault) = ⊥
UntriedBy stored start now given first last (Err DiskFault) = IsAmissOn stored given first last
UntriedBy stored start now given first last (Err Memory) = Looks first last

pub record IsUntried (stored : Stored) (start now : Moment) (old new : Option (List ℕ)) (first last : DiskMoment) (result : Result (Unit {0}) KeepFault) : Type 0 where
  pub given : List ℕ
  pub took : Took feed_limit start now given
  pub needed : AreNeeded given
  pub headed : EndAtHead given
  pub answered : AreAnswered (bytes_of stored) old old given
  pub silent : new ≡ old
  pub why : UntriedBy stored start now given first last result

-- A node was started on the feed's head and on what was found.
pub record IsBegun (stored : Stored) (start now : Moment) (first last : DiskMoment) (node : State) : Type 0 where
  pub head : ReadHead
  pub gives : GivesHead feed_limit start now head_in (Ok head)
  pub spelled : block_in true head.genesis.bytes ≡ Ok head.genesis
  pub same : IsOfSame stored head
  pub kept : node.kept ≡ head.genesis ∷ stored_blocks stored
  pub sent : node.kept ≡ kept_by_all head.bits head.genesis (bytes_of stored)
  pub terms : node.terms ≡ terms_of head.profile head.bits
  pub live : node.stopped ≡ false
  pub has : IsSome node.journal
  pub stands : IsKeptOn node.terms node.kept node.journal last
  pub leaves : LeavesStarted stored head first last

-- A node was started, and these bytes were answered.
pub record IsStarted (stored : Stored) (left : Option (List ℕ)) (given : List ℕ) (old new : Option (List ℕ)) (first last : DiskMoment) (result : Result (Unit {0}) ReplayFault) : Type 0 where
  pub fits : IfSome left (λ input. FitsStored stored (fed input).head)
  pub any_moment : IsTold first → IsSynced first → Leaves first last (HoldsFoundOrMore (records_in stored) given)
  pub lasts : IsTold first → Lasts first last HoldsJournal
  -- a found journal is a front of what is kept
  pub from : IsFound stored → (image : List ℕ) → records image ≡ records_in stored → HoldsAtLeast (length (bytes_of stored)) (bytes_of stored) given image
  pub now : IsTold first → Among (λ image. HoldsAtLeast (length (bytes_of stored)) (bytes_of stored) given image × HoldsAcknowledged (bytes_of stored) given old new image) last.images
  pub whole : OnAll result (IsTold first → Among (λ image. records image ≡ found (contents_of (bytes_of stored) given (all_of given))) last.images)

-- what was written of them, and what is left of the disk
abbrev pub Tries : Stored → Moment → Moment → Option (List ℕ) → Option (List ℕ) → DiskMoment → DiskMoment → Result (Unit {0}) ReplayFault → Type 0
Tries stored start now old new first last result =
    (r : Replies (bytes_of stored) start now old new result) × IsStarted stored start.left r.given old new first last result

abbrev pub TriedBy : Stored → Moment → Moment → Option (List ℕ) → Option (List ℕ) → DiskMoment → DiskMoment → Result (Unit {0}) KeepFault → Type 0
TriedBy stored start now old new first last (Ok u) = Tries stored start now old new first last (Ok u)
TriedBy stored start now old new first last (Err (Feed fault)) = Tries stored start now old new first last (Err (replays.Feed fault))
TriedBy stored start now old new first last (Err (OtherChain a b p c d q)) = ⊥
TriedBy stored start now old new first last (Err WriteFault) = Tries stored start now old new first last (Err replays.WriteFault)
TriedBy stored start now old new first last (Err DiskFault) = Tries stored start now old new first last (Err replays.DiskFault)
TriedBy stored start now old new first last (Err Memory) = Tries stored start now old new first last (Err replays.Memory)

abbrev pub KeepAnswers : Stored → Moment → Moment → Option (List ℕ) → Option (List ℕ) → DiskMoment → DiskMoment → Result (Unit {0}) KeepFault → Type 0
KeepAnswers stored start now old new first last result =
    IsUntried stored start now old new first last result ⊎ TriedBy stored start now old new first last result
