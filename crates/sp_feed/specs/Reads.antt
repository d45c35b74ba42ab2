-- What a private function reads: the bytes that it took, and what they say by a format, whatever follows.
use Rattle.std.specs.Prelude.{◌≡◌, ℕ, ◌+◌, ◌<◌, ◌≤◌, List, ◌++◌, length, Option, Result, Ok, Err}
use Rattle.std.specs.Io.KnownBytes.{Consumes, IsAtEnd}
use Rattle.sp_form.specs.Form.{Form}
use Rattle.sp_form.specs.Places.{Got, Faulty, Short, placed}
use Rattle.sp_io.specs.Causes.{Rose}
use Rattle.sp_feed.specs.declared.fault.FeedFault.{FeedFault}
use Rattle.sp_feed.specs.declared.fault.FeedFault.TheVariants.{Malformed, Truncated, ReadFault, TooLong}
use Rattle.sp_feed.specs.declared.fault.HeadFault.{HeadFault}
use Rattle.sp_feed.specs.declared.fault.HeadFault.TheVariants.{Feed, Memory}
use Rattle.sp_feed.specs.Feed.{judged}
use Rattle.sp_feed.specs.Format.{Flaw}

-- a source, and the number of bytes taken of it, at a moment
pub record Moment : Type 0 where
  pub left : Option (List ℕ)
  pub faults : ℕ
  pub taken : ℕ

abbrev pub moment : Option (List ℕ) → ℕ → ℕ → Moment
moment left faults taken = record { left = left; faults = faults; taken = taken }

-- between two moments these bytes were taken, within the limit
pub record Took (limit : ℕ) (old new : Moment) (given : List ℕ) : Type 0 where
  pub consumed : Consumes old.left new.left given
  pub counted : new.taken ≡ old.taken + length given
  pub within : new.taken ≤ limit
  pub later : old.faults ≤ new.faults

-- why no more bytes came, though more were needed
abbrev pub StopsShort : ℕ → Moment → Moment → FeedFault → Type 0
StopsShort limit old new (Malformed at) = ⊥
StopsShort limit old new (Truncated at) = (at ≡ new.taken) × (new.taken < limit) × IsAtEnd new.left
StopsShort limit old new ReadFault = (new.taken < limit) × Rose old.faults new.faults
StopsShort limit old new (TooLong taken) = (taken ≡ limit) × (new.taken ≡ limit)

-- the bytes that were given say this result, whatever follows them
abbrev pub Says : {X A : Type 0} → ℕ → Moment → Moment → (X → A) → Form Flaw A → List ℕ → Result X FeedFault → Type 0
Says limit old new view form given (Ok x) = (more : List ℕ) → placed form (judged limit old.taken (given ++ more)) ≡ Got (view x) (judged limit new.taken more)
Says limit old new view form given (Err (Malformed at)) = (more : List ℕ) → placed form (judged limit old.taken (given ++ more)) ≡ Faulty at
Says limit old new view form given (Err e) = (placed form (judged limit old.taken given) ≡ Short) × StopsShort limit old new e

-- less than all that was given doesn't tell: not a byte more was taken than is needed
abbrev pub Needs : {A : Type 0} → ℕ → ℕ → Form Flaw A → List ℕ → Type 0
Needs limit taken form given = (front rest : List ℕ) → given ≡ front ++ rest → 0 < length rest → placed form (judged limit taken front) ≡ Short

pub record Reads {X A : Type 0} (limit : ℕ) (old new : Moment) (view : X → A) (form : Form Flaw A) (result : Result X FeedFault) : Type 0 where
  pub given : List ℕ
  pub took : Took limit old new given
  pub says : Says limit old new view form given result
  pub needs : Needs limit old.taken form given

-- the count of faults stays, but at a failed read
abbrev pub QuietFault : ℕ → ℕ → FeedFault → Type 0
QuietFault before now (Malformed at) = now ≡ before
QuietFault before now (Truncated at) = now ≡ before
QuietFault before now ReadFault = Unit {0}
QuietFault before now (TooLong taken) = now ≡ before

abbrev pub IsQuiet : {X : Type 0} → ℕ → ℕ → Result X FeedFault → Type 0
IsQuiet before now (Ok x) = now ≡ before
IsQuiet before now (Err e) = QuietFault before now e

abbrev pub QuietHeadFault : ℕ → ℕ → HeadFault → Type 0
QuietHeadFault before now (Feed e) = QuietFault before now e
QuietHeadFault before now Memory = now ≡ before

abbrev pub IsQuietHead : {X : Type 0} → ℕ → ℕ → Result X HeadFault → Type 0
IsQuietHead before now (Ok x) = now ≡ before
IsQuietHead before now (Err e) = QuietHeadFault before now e

-- a buffer is filled by what was given, or less was given
abbrev pub FillsBy : ℕ → Moment → Moment → List ℕ → List ℕ → Result (Unit {0}) FeedFault → Type 0
FillsBy limit old new out given (Ok u) = given ≡ out
FillsBy limit old new out given (Err e) = (length given < length out) × StopsShort limit old new e

pub record Fills (limit : ℕ) (old new : Moment) (out : List ℕ) (result : Result (Unit {0}) FeedFault) : Type 0 where
  pub given : List ℕ
  pub took : Took limit old new given
  pub fills : FillsBy limit old new out given result

-- the same for the head: want of memory says nothing of the bytes that were given
abbrev pub SaysFront : {X A : Type 0} → ℕ → Moment → Moment → (X → A) → Form Flaw A → List ℕ → Result X HeadFault → Type 0
SaysFront limit old new view form given (Ok x) = Says limit old new view form given (Ok x)
SaysFront limit old new view form given (Err (Feed e)) = Says limit old new view form given (Err e)
SaysFront limit old new view form given (Err Memory) = Unit {0}

pub record ReadsFront {X A : Type 0} (limit : ℕ) (old new : Moment) (view : X → A) (form : Form Flaw A) (result : Result X HeadFault) : Type 0 where
  pub given : List ℕ
  pub took : Took limit old new given
  pub says : SaysFront limit old new view form given result
  pub needs : Needs limit old.taken form given
