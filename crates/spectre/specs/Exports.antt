-- The feed of a journal's blocks.
use Rattle.std.specs.Prelude.{◌≡◌, ℕ, List, [], map, Some}
use Rattle.sp_form.specs.Bytes.{IsBytes}
use Rattle.sp_model.specs.declared.profile.Profile.{Profile}
use Rattle.sp_feed.specs.Feed.{Whole}
use Rattle.sp_feed.specs.Format.{head_of}
use Rattle.sp_feed.specs.Kinds.{SaysBlock}
use Rattle.sp_feed.specs.Spelling.{written}
use Rattle.sp_journal.specs.Journal.{Contents}
use Rattle.sp_journal.specs.Records.{Found, records}
use Rattle.spectre.specs.Replay.{fed}

-- a head of this profile with the journal's bits and genesis block, a frame for each block in order, and the end
unfoldable pub exported : Profile → Contents → List ℕ
exported profile c = written (head_of profile c.bits c.genesis) (map SaysBlock c.blocks)

-- so a reader finds the profile, the bits, the genesis block and the blocks in their order, and nothing behind them
abbrev pub ExportIsRead : Type 0
ExportIsRead =
    (profile : Profile) (disk : List ℕ) (c : Contents) → IsBytes disk → records disk ≡ Found c →
    fed (exported profile c) ≡ record { head = Some (head_of profile c.bits c.genesis); messages = map SaysBlock c.blocks; end = Whole [] }
