use Rattle.std.proofs.Common.{ℕ, List, not}
use Rattle.std.specs.Prelude.{count_by}
use Rattle.sp_pool.proofs.Turns.{Turned}
use Rattle.sp_pool.proofs.release.mark_ready.Given as goal

abbrev pub invariant-turns : goal.invariant-turns
invariant-turns l = (ids : List ℕ) × (capacity : ℕ) × Turned l.fn.entries l.entries ids capacity

abbrev pub decreases-turns : goal.decreases-turns
decreases-turns l = count_by not l.entries.marks
