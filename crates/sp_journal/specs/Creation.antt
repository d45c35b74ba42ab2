-- A disk that holds no journal, and what its creation may leave.
use Rattle.std.specs.Prelude.{◌≡◌, ◌⊎◌, ℕ, ◌==◌, if◌then◌else◌, List, [], ◌∷◌, IfSome}
use Rattle.sp_disk.specs.Images.{EachIs}
use Rattle.sp_disk.specs.Moments.{Moment}
use Rattle.sp_journal.specs.Format.{set}
use Rattle.sp_journal.specs.Journal.{Contents}
use Rattle.sp_journal.specs.Records.{Found, NoJournal, records}
use Rattle.sp_journal.specs.declared.gate_kind.Gate.{Gate}
use Rattle.sp_journal.specs.declared.gate_kind.Gate.TheVariants.{Missing, Set, Shut}

-- the byte at place 0
abbrev pub gate_of : List ℕ → Gate
gate_of [] = Missing
gate_of (byte ∷ rest) = if byte == set then Set else Shut

-- nothing is pending, where the disk tells it
abbrev pub IsSynced : Moment → Type 0
IsSynced m = IfSome m.reads (λ bytes. EachIs bytes m.images)

-- what the disk reads is no journal, and this is its gate
pub record IsVacant (gate : Gate) (bytes : List ℕ) : Type 0 where
  pub none : records bytes ≡ NoJournal
  pub is : gate ≡ gate_of bytes

abbrev pub HoldsNone : List ℕ → Type 0
HoldsNone list = records list ≡ NoJournal

-- the bytes hold no journal, or the new one
abbrev pub HoldsNoneOrNew : Contents → List ℕ → Type 0
HoldsNoneOrNew c list = HoldsNone list ⊎ (records list ≡ Found c)

-- the bytes hold a journal
abbrev pub HoldsJournal : List ℕ → Type 0
HoldsJournal list = (c : Contents) × (records list ≡ Found c)
