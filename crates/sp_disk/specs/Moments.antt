-- What contracts see of a disk at a moment, and what each call does to it.
use Rattle.std.specs.Prelude.{◌≡◌, ◌⊎◌, ℕ, ◌<◌, ◌≤◌, List, length, take, drop, min, Option, Some, None, IfSome, Result, OnOk, OnErr, IfOk}
use Rattle.sp_form.specs.Bytes.{IsBytes}
use Rattle.sp_disk.specs.Images.{Among, EachComesBy, EachIs, PartlyWritten, Same, written}

-- What a read gives, where the disk tells it; which images a crash may leave now; the number of this moment, which
-- doesn't fall; which images a crash at the moment of some number might have left, and which one at some moment since
-- then; how often a call failed.
pub record Moment : Type 1 where
  pub reads : Option (List ℕ)
  pub images : List ℕ → Type 0
  pub clock : ℕ
  pub at : ℕ → List ℕ → Type 0
  pub since : ℕ → List ℕ → Type 0
  pub faults : ℕ

-- What is true of a disk at each moment.
pub record IsMoment (m : Moment) : Type 0 where
  -- images are bytes
  pub bytes : (image : List ℕ) → m.images image → IsBytes image
  -- what a read gives is one of the images
  pub reads : IfSome m.reads m.images
  -- this moment is one of those since an earlier one
  pub counts : (t : ℕ) (image : List ℕ) → t ≤ m.clock → m.images image → m.since t image
  -- and the only one since now
  pub only : Among m.images (m.since m.clock)
  -- the moments since one are that one and those of the greater numbers, up to now
  pub some : (t : ℕ) → t ≤ m.clock → (image : List ℕ) → m.since t image → (u : ℕ) × (t ≤ u) × (u ≤ m.clock) × m.at u image
  pub all : (t u : ℕ) → t ≤ u → u ≤ m.clock → Among (m.since t) (m.at u)

-- What a crash might have left at the old moment and before is as it was. From one moment since then to a later one the
-- images become no more.
pub record Ebbs (old new : Moment) : Type 0 where
  pub later : old.clock ≤ new.clock
  pub past : (t : ℕ) → t ≤ old.clock → Same (old.at t) (new.at t)
  pub falls : (t u : ℕ) → old.clock < t → t ≤ u → u ≤ new.clock → Among (new.at t) (new.at u)

-- Time goes on: an image of a moment since t is one of those before, or one of now. The moments within the
-- call are among them.
pub record Elapses (old new : Moment) : Type 0 where
  pub later : old.clock ≤ new.clock
  pub since : (t : ℕ) → t ≤ old.clock → (image : List ℕ) → new.since t image → old.since t image ⊎ new.images image
  pub keeps : (t : ℕ) → t ≤ old.clock → Among (new.since t) (old.since t)
  pub ebbs : Ebbs old new

-- a call that changes nothing
pub record Looks (old new : Moment) : Type 0 where
  pub reads : new.reads ≡ old.reads
  pub crash : Among old.images new.images
  -- at each moment since the old one
  pub within : (t : ℕ) → old.clock ≤ t → t ≤ new.clock → Among old.images (new.at t)
  pub time : Elapses old new

-- what is read afterwards, where the disk tells it
abbrev pub Reads : (List ℕ → List ℕ → Type 0) → Option (List ℕ) → Option (List ℕ) → Type 0
Reads step None new = new ≡ None
Reads step (Some bytes) new = (now : List ℕ) × (new ≡ Some now) × step bytes now

-- a write of these bytes at this place; where it fails any part of it may stand there
pub record Writes {T E : Type 0} (at : ℕ) (bytes : List ℕ) (old new : Moment) (result : Result T E) : Type 0 where
  pub ok : OnOk result (Reads (λ before now. now ≡ written before at bytes) old.reads new.reads)
  pub err : OnErr result (Reads (PartlyWritten at (length bytes)) old.reads new.reads)
  pub crash : EachComesBy (PartlyWritten at (length bytes)) old.images new.images
  pub time : Elapses old new

-- a sync, after which what is read is the one image
pub record Syncs {T E : Type 0} (old new : Moment) (result : Result T E) : Type 0 where
  pub ok : OnOk result (IfSome old.reads (λ bytes. EachIs bytes new.images))
  pub looks : Looks old new

-- the bytes from a place on, as many as there are and as there is room for
abbrev pub GivesFrom : {E : Type 0} → ℕ → List ℕ → List ℕ → List ℕ → Result ℕ E → Type 0
GivesFrom at bytes before after result = IfOk result (λ n. (n ≡ min (length before) (length (drop at bytes))) × (take n after ≡ take n (drop at bytes)) × (length after ≡ length before))

-- an image that a write of n bytes may leave, from what a crash could leave before it
abbrev pub PartlyWrittenFrom : ℕ → ℕ → Moment → List ℕ → Type 0
PartlyWrittenFrom at n old image = (before : List ℕ) × old.images before × PartlyWritten at n before image

-- A crash at any moment since the old one leaves an image that has P.
pub record Leaves (old new : Moment) (P : List ℕ → Type 0) : Type 0 where
  pub later : old.clock ≤ new.clock
  pub each : Among P (new.since old.clock)
  -- for a run that began earlier
  pub before : (t : ℕ) → t ≤ old.clock → (image : List ℕ) → new.since t image → old.since t image ⊎ P image
  pub past : (t : ℕ) → t ≤ old.clock → Same (old.at t) (new.at t)

-- P lasts: where a crash at some moment since the old one leaves nothing but what has P, one at each later moment does so.
pub record Lasts (old new : Moment) (P : List ℕ → Type 0) : Type 0 where
  pub later : old.clock ≤ new.clock
  pub lasts : (t : ℕ) → old.clock ≤ t → t ≤ new.clock → Among P (new.at t) → Among P (new.since t)
  -- for a run that began earlier
  pub past : (t : ℕ) → t ≤ old.clock → Same (old.at t) (new.at t)
