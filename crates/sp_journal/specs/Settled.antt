-- A disk all of whose crashes leave the same bytes, and what a gate's opening leaves of it.
use Rattle.std.specs.Prelude.{◌≡◌, ◌↔◌, ℕ, List, Some, IfSome, IsSome}
use Rattle.sp_disk.specs.Images.{Among, EachIs, written}
use Rattle.sp_disk.specs.Moments.{Moment, Reads}
use Rattle.sp_journal.specs.Gates.{IsOpened, IsShut}

-- the disk tells what it holds
abbrev pub IsTold : Moment → Type 0
IsTold m = IsSome m.reads

-- a disk that tells what it holds goes on to tell it, and no other begins to
abbrev pub SameTold : Moment → Moment → Type 0
SameTold old new = IsTold old ↔ IsTold new

-- these bytes are read, and a crash leaves them and nothing else
pub record IsSettled (bytes : List ℕ) (m : Moment) : Type 0 where
  pub reads : m.reads ≡ Some bytes
  pub only : EachIs bytes m.images

-- a closed gate stands behind these bytes, whatever a crash leaves
pub record HasGate (front : List ℕ) (m : Moment) : Type 0 where
  pub told : IsTold m
  pub shut : Among (IsShut front) m.images

-- the open gate and the body stand behind them, whatever a crash leaves
pub record HasOpened (front body : List ℕ) (m : Moment) : Type 0 where
  pub bytes : List ℕ
  pub opened : IsOpened front body bytes
  pub settled : IsSettled bytes m

-- the bytes were written at the place, and a crash leaves what is read
pub record Puts (at : ℕ) (bytes : List ℕ) (old new : Moment) : Type 0 where
  pub reads : Reads (λ before now. now ≡ written before at bytes) old.reads new.reads
  pub only : IfSome new.reads (λ now. EachIs now new.images)
