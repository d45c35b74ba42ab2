use Rattle.std.proofs.Common.{◌≡◌, ◌+◌, ◌-◌, ◌≤◌, take, length}
use Rattle.sp_rows.specs.Kept.{live_of}
use Rattle.sp_rows.proofs.free.first_uncounted.Given as goal

abbrev pub invariant-rows : goal.invariant-rows
invariant-rows l = (l.from ≤ l.at) × (l.at ≤ length l.counts) × (live_of (take l.at l.counts) + l.from ≡ live_of (take l.from l.counts) + l.at)

abbrev pub decreases-rows : goal.decreases-rows
decreases-rows l = length l.counts - l.at
