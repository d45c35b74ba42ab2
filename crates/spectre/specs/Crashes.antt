-- What a crash leaves of the disk of a node.
use Rattle.std.specs.Prelude.{◌≡◌, ◌⊎◌, ℕ, ◌<◌, true, Bool, List, [], ◌∷◌, ◌++◌, length, Option, Some, None, IsSome, Result, Ok, Err}
use Rattle.std.specs.List.{flat_map}
use Rattle.std.specs.Io.KnownBytes.{Appends, Consumes}
use Rattle.sp_block.specs.Block.{ReadBlock}
use Rattle.sp_block.specs.declared.fault.BlockFault.{BlockFault}
use Rattle.sp_disk.specs.Images.{Among}
use Rattle.sp_disk.specs.Moments.{Leaves, Looks, Moment}
use Rattle.sp_engine.specs.Arrivals.{kept_by_all}
use Rattle.sp_engine.specs.Blocks.{block_in}
use Rattle.sp_feed.specs.Format.{Head}
use Rattle.sp_feed.specs.Kinds.{Said}
use Rattle.sp_io.specs.Whole.{AppendsAtLeast}
use Rattle.sp_journal.specs.Creation.{IsSynced}
use Rattle.sp_journal.specs.Journal.{Contents, contents}
use Rattle.sp_journal.specs.Prefixes.{HoldsFront}
use Rattle.sp_journal.specs.Records.{Damaged, Found, NoJournal, Records, records}
use Rattle.sp_node.specs.Answers.{arrivals_of}
use Rattle.sp_model.specs.declared.profile.Profile.TheVariants.{One}
use Rattle.sp_node.specs.Journalled.{journal_in}
use Rattle.sp_node.specs.Terms.{Terms}
use Rattle.spectre.specs.Chains.{EndAtHead}
use Rattle.spectre.specs.Journals.{blocks_in, Fits, found_blocks}
use Rattle.spectre.specs.Replay.{fed, head_terms, lines_under}
use Rattle.spectre.specs.OneOf.{IsOneOf}
use Rattle.spectre.specs.declared.status.Status.{Status}
use Rattle.spectre.specs.declared.status.Status.TheVariants as status

-- the journal of what is kept of these messages, behind the blocks of a found one and over the genesis block of a head
abbrev pub contents_by : List (List ℕ) → Result ReadBlock BlockFault → Terms → List Said → Contents
contents_by before (Ok genesis) terms messages = journal_in terms (kept_by_all terms.bits genesis (before ++ flat_map arrivals_of messages))
contents_by before (Err fault) terms messages = contents terms.profile terms.bits [] []

abbrev pub contents_under : List (List ℕ) → Option Head → List Said → Contents
contents_under before None messages = contents One 0 [] []
contents_under before (Some head) messages = contents_by before (block_in true head.genesis) (head_terms head) messages

-- the messages of these bytes of a feed, and the journal of what is kept of the first of them
abbrev pub all_of : List ℕ → List Said
all_of given = (fed given).messages

abbrev pub contents_of : List (List ℕ) → List ℕ → List Said → Contents
contents_of before given messages = contents_under before (fed given).head messages

-- the image holds a front of the journal of all that is kept, with at least so many blocks
abbrev pub HoldsAtLeast : ℕ → List (List ℕ) → List ℕ → List ℕ → Type 0
HoldsAtLeast least before given image = HoldsFront least (contents_of before given (all_of given)) image

-- it holds all that was acknowledged: where the sink took the lines of the first messages whole, what is kept of these
abbrev pub HoldsAcknowledged : List (List ℕ) → List ℕ → Option (List ℕ) → Option (List ℕ) → List ℕ → Type 0
HoldsAcknowledged before given old new image =
    IsSome old → (answered rest : List Said) → all_of given ≡ answered ++ rest →
    AppendsAtLeast old new (lines_under before (fed given).head answered) →
    HoldsAtLeast (length (contents_of before given answered).blocks) before given image

-- a run that was ended by a fault of the outside, or for want of memory, before its sink took a byte
abbrev pub EndsEarly : Status → Type 0
EndsEarly s = IsOneOf s (status.ReadFault ∷ status.DiskFault ∷ status.Memory ∷ [])

-- such a run, before a journal was made or opened for it: nothing behind the feed's head was taken, and no whole head came
-- where a read failed
pub record IsEarly (given : List ℕ) (old new : Option (List ℕ)) (s : Status) : Type 0 where
  pub ends : EndsEarly s
  pub silent : Appends old new []
  pub headed : EndAtHead given
  pub unstarted : s ≡ status.ReadFault → (fed given).head ≡ None

-- The image holds a front of what is kept, and in it all that was found and all that was acknowledged: so there is a
-- journal once one was made. After an early end it may hold just what was found: that journal, or none.
abbrev pub Recovers : Records → List ℕ → Option (List ℕ) → Option (List ℕ) → Status → List ℕ → Type 0
Recovers r given old new s image =
    ((records image ≡ r) × IsEarly given old new s)
    ⊎ (HoldsAtLeast (length (blocks_in r)) (blocks_in r) given image × HoldsAcknowledged (blocks_in r) given old new image)

-- the image holds just what was found, or a front of what is kept with all of it
abbrev pub HoldsFoundOrMore : Records → List ℕ → List ℕ → Type 0
HoldsFoundOrMore r given image = (records image ≡ r) ⊎ HoldsAtLeast (length (blocks_in r)) (blocks_in r) given image

-- a journal goes on from what was found: it has the profile, the bits, the genesis block and, in front, all the blocks
abbrev pub GoesOn : Records → Contents → Type 0
GoesOn NoJournal c = Unit {0}
GoesOn (Damaged at) c = ⊥
GoesOn (Found f) c = (c.profile ≡ f.profile) × (c.bits ≡ f.bits) × (c.genesis ≡ f.genesis) × ((more : List (List ℕ)) × (c.blocks ≡ f.blocks ++ more))

-- the image holds just what was found, or a journal that goes on from it, whatever the feed is
abbrev pub HoldsOnward : Records → List ℕ → Type 0
HoldsOnward r image = (records image ≡ r) ⊎ ((c : Contents) × (records image ≡ Found c) × GoesOn r c)

-- the sink took a byte
pub record TookMore (old new : Option (List ℕ)) : Type 0 where
  pub before : List ℕ
  pub was : old ≡ Some before
  pub more : List ℕ
  pub some : 0 < length more
  pub now : new ≡ Some (before ++ more)

-- nothing was pending at entry, or the sink took a byte, or the run is done
abbrev pub IsSure : Moment → Option (List ℕ) → Option (List ℕ) → Status → Type 0
IsSure first old new s = IsSynced first ⊎ (TookMore old new ⊎ (s ≡ status.Done))

-- What a crash leaves of the disk of a run that keeps a journal, given what the disk read at entry, what the source
-- had left then and has now, what the sink had taken and has, and the moments of the disk at entry and now.
pub record Recovery (fresh : Bool) (disk input : List ℕ) (left old new : Option (List ℕ)) (first last : Moment) (s : Status) : Type 0 where
  -- the bytes that the source gave
  pub given : List ℕ
  pub consumed : Consumes (Some input) left given
  -- now
  pub now : Fits fresh disk input → IsSure first old new s → Among (Recovers (records disk) given old new s) last.images
  -- now, where the run is done: all that is kept
  pub whole : Fits fresh disk input → s ≡ status.Done
      → Among (λ image. records image ≡ Found (contents_of (found_blocks disk) given (all_of given))) last.images
  -- at any moment since entry
  pub any_moment : Fits fresh disk input → IsSynced first → Leaves first last (HoldsFoundOrMore (records disk) given)
  -- where the disk doesn't fit the feed, it is as it was
  pub other : (Fits fresh disk input → ⊥) → Looks first last
