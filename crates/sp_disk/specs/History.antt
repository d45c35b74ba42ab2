-- The images of each moment, from the calls that a disk in memory recorded.
use Rattle.std.specs.Prelude.{ℕ, ◌≤◌, nat_lt, Bool, if◌then◌else◌, List, [], ◌∷◌, ◌++◌, length, take, drop, fold, Option, Some, None}
use Rattle.std.specs.List.{list_all}
use Rattle.sp_io.specs.declared.fails.Fails.{Fails}
use Rattle.sp_disk.specs.Images.{written}
use Rattle.sp_disk.specs.Moments.{Moment}
use Rattle.sp_disk.specs.Pending.{IsImage, State, state}
use Rattle.sp_disk.specs.declared.call.Call.{Call}
use Rattle.sp_disk.specs.declared.call.Call.TheVariants.{Asked, Synced, Wrote}
use Rattle.sp_disk.specs.declared.pick.Range.{Range}

-- a recorded call: nothing changed; a write at a place, done or not; a sync that succeeded
pub data Event : Type 0 where
  Nothing : Event
  Write : ℕ → List ℕ → Bool → Event
  Sync : Event

abbrev pub range_of : ℕ → List ℕ → Range
range_of at bytes = record { at = at; size = length bytes }

abbrev pub after : State → Event → State
after s Nothing = s
after s (Write at bytes done) = state (if done then written s.reads at bytes else s.reads) s.synced (s.pending ++ range_of at bytes ∷ [])
after s Sync = state s.reads s.reads []

-- the disk after some calls, if it began with these bytes
abbrev pub state_after : List ℕ → List Event → State
state_after start events = fold after (state start start []) events

-- an image of the moment behind some number of the calls
abbrev pub WasLeftAt : List ℕ → List Event → ℕ → List ℕ → Type 0
WasLeftAt start events t image = IsImage (state_after start (take t events)) image

-- an image of the moment behind some number of the calls, from one on
pub record WasLeft (start : List ℕ) (events : List Event) (t : ℕ) (image : List ℕ) : Type 0 where
  pub moment : ℕ
  pub from : t ≤ moment
  pub until : moment ≤ length events
  pub left : WasLeftAt start events moment image

-- the calls, each write with its part of the bytes of all of them
abbrev pub events_of : List Call → List ℕ → List Event
events_of [] bytes = []
events_of (Asked ∷ calls) bytes = Nothing ∷ events_of calls bytes
events_of (Wrote at size done ∷ calls) bytes = Write at (take size bytes) done ∷ events_of calls (drop size bytes)
events_of (Synced ∷ calls) bytes = Sync ∷ events_of calls bytes

-- a list of bytes is told, and no other
abbrev pub told : List ℕ → Option (List ℕ)
told list = if list_all (λ byte. nat_lt byte 256) list then Some list else None

-- what contracts see of a disk in memory: the bytes that it began with, its calls, how many bytes it holds
-- and takes in all, how many calls it records, which calls fail, how many came, and how many failed
pub record Keeping : Type 0 where
  pub start : List ℕ
  pub events : List Event
  pub capacity : ℕ
  pub limit : ℕ
  pub fails : Fails
  pub calls : ℕ
  pub faults : ℕ

abbrev pub state_of : Keeping → State
state_of k = state_after k.start k.events

abbrev pub moment_of : Keeping → Moment
moment_of k = record {
  reads = told (state_of k).reads;
  images = IsImage (state_of k);
  clock = length k.events;
  at = WasLeftAt k.start k.events;
  since = WasLeft k.start k.events;
  faults = k.faults;
}
