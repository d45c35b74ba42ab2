-- What the commands with a file write, over what the disk reads before the run.
use Rattle.std.specs.Prelude.{◌≡◌, ◌≢◌, ◌⊎◌, ℕ, ◌==◌, ◌&&◌, ◌||◌, Bool, true, false, List, [], ◌∷◌, ◌++◌, length, codes, Option, Some, None, Result, Ok, Err}
use Rattle.std.specs.Fmt.{decimal}
use Rattle.std.specs.Str.{bytes_eq}
use Rattle.sp_block.specs.Block.{ReadBlock}
use Rattle.sp_block.specs.declared.fault.BlockFault.{BlockFault}
use Rattle.sp_model.specs.declared.profile.Profile.{Profile}
use Rattle.sp_model.specs.Profiles.{number}
use Rattle.sp_engine.specs.Arrivals.{kept_by_all}
use Rattle.sp_engine.specs.Blocks.{block_in}
use Rattle.sp_feed.specs.Format.{Head}
use Rattle.sp_journal.specs.Journal.{Contents}
use Rattle.sp_journal.specs.Records.{Damaged, Found, NoJournal, Records, records}
use Rattle.sp_names.specs.Labels.{no_labels}
use Rattle.sp_report.specs.Naming.{hex_label}
use Rattle.sp_report.specs.Texts.{report_text}
use Rattle.spectre.specs.Exports.{exported}
use Rattle.spectre.specs.Replay.{fed}
use Rattle.spectre.specs.declared.shape.Shape.{Shape}
use Rattle.spectre.specs.declared.shape.Shape.TheVariants.{Report, Feed}

-- `fault not-journal`
unfoldable pub not_journal_text : List ℕ
not_journal_text = codes "fault not-journal" ++ 10 ∷ []

-- `fault damaged N`, N the place
unfoldable pub damaged_text : ℕ → List ℕ
damaged_text at = codes "fault damaged " ++ decimal at ++ 10 ∷ []

-- bits of work, genesis and profile of a chain, `N ID P`
abbrev pub chain_text : ℕ → ℕ → Profile → List ℕ
chain_text bits genesis profile = decimal bits ++ 32 ∷ [] ++ hex_label genesis ++ 32 ∷ [] ++ decimal (number profile)

-- `fault other-chain N ID P N ID P`: those of the journal, and then of the feed
unfoldable pub other_chain_text : ℕ → ℕ → Profile → ℕ → ℕ → Profile → List ℕ
other_chain_text stored_bits stored stored_profile fed_bits fed_id fed_profile =
    codes "fault other-chain " ++ chain_text stored_bits stored stored_profile ++ 32 ∷ [] ++ chain_text fed_bits fed_id fed_profile ++ 10 ∷ []

-- `recovered N`, N the records
unfoldable pub recovered_text : ℕ → List ℕ
recovered_text count = codes "recovered " ++ decimal count ++ 10 ∷ []

-- the head of a feed asks for the journal's bits, genesis block and profile
abbrev pub is_chain_of : Contents → Head → Bool
is_chain_of c head = (c.bits == head.bits) && (bytes_eq c.genesis head.genesis && (number c.profile == number head.profile))

-- a journal may be made: there are no bytes, or it was asked for
abbrev pub may_be_new : Bool → List ℕ → Bool
may_be_new fresh disk = fresh || (length disk == 0)

abbrev pub report_by : Contents → Result ReadBlock BlockFault → List ℕ
report_by c (Ok genesis) = report_text c.profile no_labels (kept_by_all c.bits genesis c.blocks)
report_by c (Err fault) = []

-- of a journal the report, or the feed of its blocks
abbrev pub told_by : Shape → Contents → List ℕ
told_by Report c = recovered_text (length c.blocks) ++ report_by c (block_in true c.genesis)
told_by (Feed profile) c = exported profile c

abbrev pub shown_by : Shape → Records → List ℕ
shown_by shape NoJournal = not_journal_text
shown_by shape (Damaged at) = damaged_text at
shown_by shape (Found c) = told_by shape c

-- what `show` and `export` write
unfoldable pub shown_output : Shape → List ℕ → List ℕ
shown_output shape disk = shown_by shape (records disk)

-- the blocks of the journal that was found
abbrev pub blocks_in : Records → List (List ℕ)
blocks_in (Found c) = c.blocks
blocks_in other = []

abbrev pub found_blocks : List ℕ → List (List ℕ)
found_blocks disk = blocks_in (records disk)

-- How the disk stands to a feed.

pub record IsChainOf (c : Contents) (head : Head) : Type 0 where
  pub profile : c.profile ≡ head.profile
  pub bits : c.bits ≡ head.bits
  pub genesis : c.genesis ≡ head.genesis

abbrev pub FitsHead : Bool → List ℕ → Records → Option Head → Type 0
FitsHead fresh disk r None = ⊥
FitsHead fresh disk NoJournal (Some head) = (length disk ≡ 0) ⊎ (fresh ≡ true)
FitsHead fresh disk (Damaged at) (Some head) = ⊥
FitsHead fresh disk (Found c) (Some head) = IsChainOf c head

-- The disk fits the feed: the feed's head is whole, and the disk is empty, or holds a journal of that head's profile,
-- bits and genesis block, or holds none and a new one may be made.
abbrev pub Fits : Bool → List ℕ → List ℕ → Type 0
Fits fresh disk input = FitsHead fresh disk (records disk) (fed input).head

-- the disk holds no journal, and none may be made
pub record HasNoJournal (fresh : Bool) (disk : List ℕ) : Type 0 where
  pub none : records disk ≡ NoJournal
  pub some : length disk ≢ 0
  pub old : fresh ≡ false

abbrev pub IsDamagedDisk : List ℕ → Type 0
IsDamagedDisk disk = (at : ℕ) × (records disk ≡ Damaged at)

-- it holds the journal of another chain than that of the feed
pub record HasOtherChain (disk input : List ℕ) : Type 0 where
  pub contents : Contents
  pub found : records disk ≡ Found contents
  pub head : Head
  pub begins : (fed input).head ≡ Some head
  pub other : IsChainOf contents head → ⊥
