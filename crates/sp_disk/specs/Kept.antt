-- What a disk in memory keeps beside its calls, and the room that it made for them.
use Rattle.std.specs.Prelude.{◌≡◌, ℕ, ◌+◌, ◌≤◌, List, [], ◌∷◌, ◌++◌, length}
use Rattle.sp_disk.specs.History.{Event, events_of, Keeping, Nothing, state_after, Sync, Write}
use Rattle.sp_disk.specs.Pending.{state}
use Rattle.sp_disk.specs.declared.call.Call.{Call}
use Rattle.sp_disk.specs.declared.call.Call.TheVariants.{Asked, Synced, Wrote}
use Rattle.sp_disk.specs.declared.pick.Range.{Range}

-- the number of bytes of all recorded writes
abbrev pub total : List Call → ℕ
total [] = 0
total (Asked ∷ calls) = total calls
total (Wrote at size done ∷ calls) = size + total calls
total (Synced ∷ calls) = total calls

-- the bytes now, at the last sync, and the ranges since, are those that the calls give
pub record IsKept (start : List ℕ) (calls : List Call) (given bytes synced : List ℕ) (pending : List Range) : Type 0 where
  pub now : state_after start (events_of calls given) ≡ state bytes synced pending
  pub whole : length given ≡ total calls

-- the lists fit, and there is room for all that may come
pub record HasRoom (capacity limit given bytes calls pending : ℕ) : Type 0 where
  pub all_given : given ≤ capacity
  pub all_bytes : bytes ≤ capacity
  pub all_calls : calls ≤ limit
  pub all_pending : pending ≤ calls

-- the number of bytes of all writes
abbrev pub written_in_all : List Event → ℕ
written_in_all [] = 0
written_in_all (Nothing ∷ events) = written_in_all events
written_in_all (Write at bytes done ∷ events) = length bytes + written_in_all events
written_in_all (Sync ∷ events) = written_in_all events

-- one call more was recorded
abbrev pub with_event : Keeping → Event → Keeping
with_event k event = record k { events = k.events ++ event ∷ [] }
