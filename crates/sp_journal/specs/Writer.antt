-- What contracts see of a journal, and the disks that stand for it.
use Rattle.std.specs.Prelude.{◌≡◌, ◌⊎◌, ℕ, ◌+◌, ◌*◌, ◌≤◌, Bool, List, length}
use Rattle.sp_disk.specs.Images.{Among}
use Rattle.sp_disk.specs.Moments.{Moment}
use Rattle.sp_model.specs.declared.profile.Profile.{Profile}
use Rattle.sp_journal.specs.Journal.{Contents, front, record_text, with_block}
use Rattle.sp_journal.specs.Records.{Found, records}
use Rattle.sp_journal.specs.Settled.{IsTold}

-- the profile, the bits of work, the number of records, the place of the closed gate behind them, and whether a call of
-- the disk failed, so that nothing more may be written
pub record Writer : Type 0 where
  pub profile : Profile
  pub bits : ℕ
  pub records : ℕ
  pub gate : ℕ
  pub closed : Bool

abbrev pub writer : Profile → ℕ → ℕ → ℕ → Bool → Writer
writer profile bits records gate closed = record { profile = profile; bits = bits; records = records; gate = gate; closed = closed }

-- what is true of every journal
pub record IsWriter (w : Writer) : Type 0 where
  pub bits : w.bits ≤ 64
  pub few : w.records ≤ 511
  pub low : w.gate ≤ 65550 + 65541 * w.records

-- with a record of these bytes more
abbrev pub with_record : Writer → List ℕ → Writer
with_record w bytes = writer w.profile w.bits (w.records + 1) (w.gate + length (record_text bytes)) w.closed

-- every crash of the disk leaves these contents, and they are the journal's
pub record Stands (w : Writer) (c : Contents) (m : Moment) : Type 0 where
  pub told : IsTold m
  pub holds : Among (λ image. records image ≡ Found c) m.images
  pub profile : w.profile ≡ c.profile
  pub bits : w.bits ≡ c.bits
  pub count : w.records ≡ length c.blocks
  pub gate : w.gate ≡ length (front c)

-- the disk stands for the journal
abbrev pub StandsFor : Writer → Moment → Type 0
StandsFor w m = (c : Contents) × Stands w c m

-- the bytes hold these contents, with one more block or without it
abbrev pub HoldsOrAdded : Contents → List ℕ → List ℕ → Type 0
HoldsOrAdded c bytes list = (records list ≡ Found c) ⊎ (records list ≡ Found (with_block c bytes))
