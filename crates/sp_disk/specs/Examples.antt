-- Small disks, the outcomes of whose crashes were worked out by hand.
use Rattle.std.specs.Prelude.{true, false, List, [], ◌∷◌}
use Rattle.sp_disk.specs.Pending.{State}
use Rattle.sp_disk.specs.History.{Event, state_after, Sync, Write}

-- three bytes amid five
abbrev pub amid : State
amid = state_after (1 ∷ 2 ∷ 3 ∷ 4 ∷ 5 ∷ []) (Write 1 (7 ∷ 8 ∷ 9 ∷ []) true ∷ [])

-- two bytes behind the end of two
abbrev pub behind : State
behind = state_after (1 ∷ 2 ∷ []) (Write 2 (7 ∷ 8 ∷ []) true ∷ [])

-- two writes, the second of them over the end
abbrev pub twice : State
twice = state_after (1 ∷ 2 ∷ 3 ∷ []) (Write 0 (7 ∷ []) true ∷ Write 2 (8 ∷ 9 ∷ []) true ∷ [])

-- a write of two bytes that failed
abbrev pub not_done : State
not_done = state_after (1 ∷ 2 ∷ 3 ∷ []) (Write 1 (7 ∷ 8 ∷ []) false ∷ [])

-- the calls of a disk with a write, a sync, and a write
abbrev pub calls : List Event
calls = Write 2 (7 ∷ []) true ∷ Sync ∷ Write 0 (9 ∷ []) true ∷ []

abbrev pub synced : State
synced = state_after (1 ∷ 2 ∷ []) calls
