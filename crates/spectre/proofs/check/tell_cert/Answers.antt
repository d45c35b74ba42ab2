use Rattle.sp_io.proofs.Writing.{wrote_none}
use Rattle.spectre.proofs.check.tell_cert.Goals as goal

pub returns-in-Err-Memory-clause-by : goal.returns-in-Err-Memory-clause-by
returns-in-Err-Memory-clause-by g c = (_, wrote_none (g.K.Sink.taken c.args.sink.now) _)
