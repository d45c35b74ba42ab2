use Rattle.spectre.proofs.CertifiedFeeds.{by_certified, by_fault, by_memory, fault_not_done, takes_certified}
use Rattle.spectre.proofs.Due.{takes_line}
use Rattle.spectre.proofs.SpentFeeds.{nothing, takes_nothing}
use Rattle.spectre.proofs.certify.certify.Goals as goal

pub returns-in-Ok-clause-by : goal.returns-in-Ok-clause-by
returns-in-Ok-clause-by g c = λ reads. by_certified c.args.x.now c.args.y.now (g.K.Sink.taken c.args.sink.now) (g.K.Sink.taken c.tell_certified.new.sink) c.in-Ok.ensures.brought.1 reads c.tell_certified.result c.tell_certified.ensures.by

pub returns-in-Ok-clause-taken : goal.returns-in-Ok-clause-taken
returns-in-Ok-clause-taken g c = takes_certified nothing _ _ _ (g.K.Sink.taken c.args.sink.now) (g.K.Sink.taken c.tell_certified.new.sink) c.tell_certified.result (takes_nothing (g.K.Sink.taken c.args.sink.now) c.in-Ok.ensures.brought.1) c.tell_certified.ensures.by

pub returns-in-Err-Feed-clause-by : goal.returns-in-Err-Feed-clause-by
returns-in-Err-Feed-clause-by g c = λ reads.
    let b = rw c.in-Err-Feed.field-0-is at c.in-Err-Feed.ensures.brought in
    by_fault c.args.x.now c.args.y.now reads (g.K.Sink.taken c.args.sink.now) (g.K.Sink.taken c.write_fault.new.sink) c.in-Err-Feed.fault c.write_fault.result b.1
    (rw c.in-Err-Feed.field-0-is at c.write_fault.ensures.status) (rw c.in-Err-Feed.field-0-is at c.write_fault.ensures.text) (rw c.in-Err-Feed.field-0-is at c.write_fault.ensures.front) (rw c.in-Err-Feed.field-0-is at c.write_fault.ensures.read_fault)

pub returns-in-Err-Feed-clause-taken : goal.returns-in-Err-Feed-clause-taken
returns-in-Err-Feed-clause-taken g c = takes_line nothing _ _ _ _ _ _ (takes_nothing (g.K.Sink.taken c.args.sink.now) c.in-Err-Feed.ensures.brought.1) c.write_fault.ensures.front

pub returns-in-Err-Feed-clause-stands : goal.returns-in-Err-Feed-clause-stands
returns-in-Err-Feed-clause-stands g c = λ s. absurd (fault_not_done c.in-Err-Feed.fault c.write_fault.result (rw c.in-Err-Feed.field-0-is at c.write_fault.ensures.status) s)

pub returns-in-Err-Memory-clause-by : goal.returns-in-Err-Memory-clause-by
returns-in-Err-Memory-clause-by g c = λ reads. by_memory c.args.x.now c.args.y.now reads (g.S.Source.left c.args.source.now) (g.S.Source.left c.engine_of_feed.new.source) (g.K.Sink.taken c.args.sink.now)

pub returns-in-Err-Memory-clause-taken : goal.returns-in-Err-Memory-clause-taken
returns-in-Err-Memory-clause-taken g c = takes_nothing (g.K.Sink.taken c.args.sink.now) c.in-Err-Memory.ensures.brought.1
