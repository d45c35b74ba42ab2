use Rattle.sp_pool.proofs.Looks.{found_earliest, NoneReady-more}
use Rattle.sp_pool.proofs.release.earliest_ready.Goals as goal

pub returns-then-is_ready_at-clause-block : goal.returns-then-is_ready_at-clause-block
returns-then-is_ready_at-clause-block c =
    found_earliest c.args.entries.now c.loop-place.entries c.loop-place.place c.is_ready_at.result c.loop-place.invariant c.is_ready_at.ensures.ready c.if-is_ready_at.true

pub loop-place-preserved : goal.loop-place-preserved
loop-place-preserved c =
    NoneReady-more c.args.entries.now c.loop-place.entries c.is_ready_at.new.entries c.loop-place.place c.is_ready_at.result c.loop-place.invariant
    c.is_ready_at.ensures.looked c.is_ready_at.ensures.ready c.if-is_ready_at.false
