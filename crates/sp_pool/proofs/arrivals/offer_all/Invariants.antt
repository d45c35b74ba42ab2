use Rattle.std.specs.Vec.Iter.{into_iter_items}
use Rattle.sp_pool.proofs.Runs.{Offered}
use Rattle.sp_pool.proofs.arrivals.offer_all.Given as goal

abbrev pub invariant-loop-block : goal.invariant-loop-block
invariant-loop-block l = Offered l.fn.genesis l.fn.blocks.items l.yielded (into_iter_items l.block-iterator) l.pool l.answers.items
