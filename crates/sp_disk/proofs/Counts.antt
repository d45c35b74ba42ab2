-- A disk in memory records each call for which there is room.
use Rattle.std.proofs.Common.{◌≡◌, ◌^◌, ◌<◌, Bool, true, false, [], ◌∷◌, ◌++◌, length, refl, arith, length-append}
use Rattle.std.specs.Prelude.{if◌then◌else◌, min}
use Rattle.std.proofs.lemmas.Bool.{leb-false, leb-true}
use Rattle.sp_io.specs.Causes.{counted}
use Rattle.sp_disk.specs.Asked.{did, failed, full, KeepsAll}
use Rattle.sp_disk.specs.History.{Event, Keeping}

one_more : (k : Keeping) (event : Event) → k.limit < 2 ^ 32 → KeepsAll k → length k.events < k.limit → length (k.events ++ event ∷ []) ≡ min (counted k.calls) k.limit
one_more k event small all room = omega (arith, small, all, room, length-append k.events (event ∷ []))

pub all_did : (k : Keeping) (event : Event) → k.limit < 2 ^ 32 → KeepsAll k → full k ≡ false → KeepsAll (did k event)
all_did k event small all room = one_more k event small all (leb-false k.limit (length k.events) room)

pub all_failed : (k : Keeping) (event : Event) → k.limit < 2 ^ 32 → KeepsAll k → KeepsAll (failed k event)
all_failed k event small all = at (full k) refl
  where
    at : (b : Bool) → full k ≡ b → length (if b then k.events else k.events ++ event ∷ []) ≡ min (counted k.calls) k.limit
    at true no_room = omega (arith, small, all, leb-true k.limit (length k.events) no_room)
    at false room = one_more k event small all (leb-false k.limit (length k.events) room)
