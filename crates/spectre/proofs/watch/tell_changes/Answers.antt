use Rattle.std.proofs.lemmas.Result.{err_from_is_err_and}
use Rattle.sp_io.proofs.Writing.{wrote_none}
use Rattle.spectre.proofs.watch.tell_changes.Goals as goal

pub returns-in_err-changes-clause-err : goal.returns-in_err-changes-clause-err
returns-in_err-changes-clause-err g c =
    let p = err_from_is_err_and c.from_residual.result c.from_residual.ensures.1 in
    rw p.1 (_, wrote_none (g.K.Sink.taken c.args.sink.now) _)
