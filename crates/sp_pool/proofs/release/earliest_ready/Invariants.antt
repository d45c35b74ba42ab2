use Rattle.sp_pool.proofs.Looks.{NoneReady}
use Rattle.sp_pool.proofs.release.earliest_ready.Given as goal

abbrev pub invariant-loop-place : goal.invariant-loop-place
invariant-loop-place l = NoneReady l.fn.entries l.entries l.place
