use Rattle.std.proofs.Common.{arith}
use Rattle.std.proofs.lemmas.Result.{err_from_is_err_and}
use Rattle.sp_feed.specs.Reads.{moment}
use Rattle.sp_feed.proofs.WholeFeeds.{all_memory, from_new, whole_feed}
use Rattle.sp_feed.proofs.run.read_all.Goals as goal

pub returns-in_err-reader-clause-gives : goal.returns-in_err-reader-clause-gives
returns-in_err-reader-clause-gives g c =
    let p = err_from_is_err_and c.from_residual.result c.from_residual.ensures.1 in
    rw (p.1, p.2) (0, all_memory c.args.limit (moment (g.S.Source.left c.args.source.now) (g.S.Source.faults c.args.source.now) 0) _ _ (omega arith))

pub returns-clause-whole : goal.returns-clause-whole
returns-clause-whole g c = λ list told. whole_feed list told (from_new c.in_ok-reader.ensures c.read_messages.ensures.gives)

pub returns-clause-gives : goal.returns-clause-gives
returns-clause-gives g c = (c.read_messages.new.reader.taken, from_new c.in_ok-reader.ensures c.read_messages.ensures.gives)
