use Rattle.std.proofs.Common.{◌≡◌, take, length}
use Rattle.sp_money.proofs.locks.Locks.truncate.Given as goal

abbrev pub invariant-locks : goal.invariant-locks
invariant-locks l = take l.len l.self ≡ take l.len l.initial.self

abbrev pub decreases-locks : goal.decreases-locks
decreases-locks l = length l.self
