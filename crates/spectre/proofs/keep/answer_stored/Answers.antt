use Rattle.std.proofs.Common.{arith}
use Rattle.std.proofs.lemmas.Result.{err_from_is_err_and}
use Rattle.sp_feed.specs.Reads.{moment}
use Rattle.spectre.proofs.Keeping.{untried_none}
use Rattle.spectre.proofs.keep.answer_stored.Goals as goal

pub returns-in_err-reader-clause-answers : goal.returns-in_err-reader-clause-answers
returns-in_err-reader-clause-answers g c =
    let p = err_from_is_err_and c.from_residual.result c.from_residual.ensures.1 in
    let start = moment (g.S.Source.left c.args.source.now) (g.S.Source.faults c.args.source.now) 0 in
    rw (p.1, p.2) (0, untried_none c.args.stored start (g.K.Sink.taken c.args.sink.now) (g.D.Disk.now c.args.disk.now) (g.met.D.Disk.is_moment c.args.disk.now) (omega arith))
