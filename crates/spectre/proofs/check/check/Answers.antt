use Rattle.std.proofs.Common.{List, subst, ℕ}
use Rattle.std.specs.Io.KnownBytes.{Appends}
use Rattle.sp_io.specs.Whole.{AppendsFront}
use Rattle.spectre.proofs.CheckedCerts.{by_malformed, by_memory, by_truncated, by_verdict}
use Rattle.spectre.proofs.check.check.Goals as goal

pub returns-in-Ok-clause-by : goal.returns-in-Ok-clause-by
returns-in-Ok-clause-by g c = λ reads.
    let r = c.in-Ok.ensures.reads in
    by_verdict (g.S.Source.left c.args.source.now) (g.S.Source.left c.read_cert.new.source) (g.K.Sink.taken c.args.sink.now) (g.K.Sink.taken c.tell_cert.new.sink) r.0 r.1 reads _ r.2 r.3 c.tell_cert.result c.tell_cert.ensures.by

pub returns-in-Err-Malformed-clause-by : goal.returns-in-Err-Malformed-clause-by
returns-in-Err-Malformed-clause-by g c = λ reads.
    let r = rw c.in-Err-Malformed.field-0-is at c.in-Err-Malformed.ensures.reads in
    let a = g.K.Sink.taken c.args.sink.now in
    let b = g.K.Sink.taken c.end_with.new.sink in
    let line = rw c.in-Err-Malformed.field-0-is at c.malformed_line.ensures in
    by_malformed (g.S.Source.left c.args.source.now) (g.S.Source.left c.read_cert.new.source) a b r.0 r.1 reads c.in-Err-Malformed.at r.2 c.end_with.result c.end_with.ensures.status
    (λ h. subst (λ (t : List ℕ). Appends a b t) line (c.end_with.ensures.text h))
    (subst (λ (t : List ℕ). AppendsFront a b t) line c.end_with.ensures.front)

pub returns-in-Err-Truncated-clause-by : goal.returns-in-Err-Truncated-clause-by
returns-in-Err-Truncated-clause-by g c = λ reads.
    let r = rw c.in-Err-Truncated.field-0-is at c.in-Err-Truncated.ensures.reads in
    let a = g.K.Sink.taken c.args.sink.now in
    let b = g.K.Sink.taken c.end_with-in-Err-Truncated.new.sink in
    let line = rw c.in-Err-Truncated.field-0-is at c.truncated_line.ensures in
    by_truncated (g.S.Source.left c.args.source.now) (g.S.Source.left c.read_cert.new.source) a b r.0 r.1 reads c.in-Err-Truncated.at r.2 r.3 c.end_with-in-Err-Truncated.result c.end_with-in-Err-Truncated.ensures.status
    (λ h. subst (λ (t : List ℕ). Appends a b t) line (c.end_with-in-Err-Truncated.ensures.text h))
    (subst (λ (t : List ℕ). AppendsFront a b t) line c.end_with-in-Err-Truncated.ensures.front)

pub returns-in-Err-Memory-clause-by : goal.returns-in-Err-Memory-clause-by
returns-in-Err-Memory-clause-by g c = λ reads. by_memory reads (g.S.Source.left c.args.source.now) (g.S.Source.left c.read_cert.new.source) (g.K.Sink.taken c.args.sink.now)

pub returns-in-Err-ReadFault-clause-by : goal.returns-in-Err-ReadFault-clause-by
returns-in-Err-ReadFault-clause-by g c = λ reads. ((λ fed. absurd fed), by_memory reads (g.S.Source.left c.args.source.now) (g.S.Source.left c.read_cert.new.source) (g.K.Sink.taken c.args.sink.now))
