-- What a disk in memory answers to a call, and what it keeps of it.
use Rattle.std.specs.Prelude.{◌≡◌, ◌⊎◌, ℕ, ◌+◌, nat_le, min, ◌&&◌, Bool, false, if◌then◌else◌, List, [], ◌∷◌, ◌++◌, length, IsTrue}
use Rattle.sp_io.specs.Causes.{counted}
use Rattle.sp_io.specs.Fails.{FailsAt}
use Rattle.sp_disk.specs.History.{Event, Keeping, Nothing, Write}
use Rattle.sp_disk.specs.Kept.{written_in_all}

-- as many calls are recorded as there is room for
abbrev pub full : Keeping → Bool
full k = nat_le k.limit (length k.events)

-- a write of n bytes at a place ends within the capacity, and so do all writes together
abbrev pub fits : Keeping → ℕ → ℕ → Bool
fits k at n = nat_le (at + n) k.capacity && nat_le (written_in_all k.events + n) k.capacity

-- the next call is planned to fail, or past those that are recorded
abbrev pub IsRefused : Keeping → Type 0
IsRefused k = FailsAt k.fails k.calls ⊎ IsTrue (full k)

-- the calls with one more, where there is room for it
abbrev pub recorded : Keeping → Event → List Event
recorded k event = if full k then k.events else k.events ++ event ∷ []

-- what is recorded of a write that failed: that it wasn't done, or nothing of it where it doesn't fit
abbrev pub undone : Keeping → ℕ → List ℕ → Event
undone k at bytes = if fits k at (length bytes) then Write at bytes false else Nothing

-- behind a call that succeeded
abbrev pub did : Keeping → Event → Keeping
did k event = record k { events = k.events ++ event ∷ []; calls = counted k.calls }

-- behind a call that failed
abbrev pub failed : Keeping → Event → Keeping
failed k event = record k { events = recorded k event; calls = counted k.calls; faults = counted k.faults }

-- the calls that came are recorded, up to the number for which there is room; so that is full where as many came
abbrev pub KeepsAll : Keeping → Type 0
KeepsAll k = length k.events ≡ min k.calls k.limit
