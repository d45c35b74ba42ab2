use Rattle.spectre.proofs.Due.{takes_line}
use Rattle.spectre.proofs.WatchEnds.{by_done, by_fault, by_memory, by_write, takes}
use Rattle.spectre.proofs.watch.watch.Goals as goal

pub returns-in-Ok-clause-by : goal.returns-in-Ok-clause-by
returns-in-Ok-clause-by g c = λ reads. by_done c.args.items.now reads c.in-Ok.ensures.watches.1

pub returns-in-Ok-clause-taken : goal.returns-in-Ok-clause-taken
returns-in-Ok-clause-taken g c = takes c.args.items.now c.in-Ok.ensures.watches.1

pub returns-in-Err-Feed-clause-by : goal.returns-in-Err-Feed-clause-by
returns-in-Err-Feed-clause-by g c = λ reads.
    let w = rw c.in-Err-Feed.field-0-is at c.in-Err-Feed.ensures.watches in
    by_fault c.args.items.now reads (g.K.Sink.taken c.write_fault.new.sink) c.in-Err-Feed.fault c.write_fault.result w.1 c.write_fault.ensures.status c.write_fault.ensures.text c.write_fault.ensures.front c.write_fault.ensures.read_fault

pub returns-in-Err-Feed-clause-taken : goal.returns-in-Err-Feed-clause-taken
returns-in-Err-Feed-clause-taken g c = takes_line _ _ _ _ _ _ _ (takes c.args.items.now c.in-Err-Feed.ensures.watches.1) c.write_fault.ensures.front

pub returns-in-Err-WriteFault-clause-by : goal.returns-in-Err-WriteFault-clause-by
returns-in-Err-WriteFault-clause-by g c = λ reads.
    let w = rw c.in-Err-WriteFault.field-0-is at c.in-Err-WriteFault.ensures.watches in
    by_write c.args.items.now reads w.1

pub returns-in-Err-WriteFault-clause-taken : goal.returns-in-Err-WriteFault-clause-taken
returns-in-Err-WriteFault-clause-taken g c = takes c.args.items.now c.in-Err-WriteFault.ensures.watches.1

pub returns-in-Err-Memory-clause-by : goal.returns-in-Err-Memory-clause-by
returns-in-Err-Memory-clause-by g c = λ reads.
    let w = rw c.in-Err-Memory.field-0-is at c.in-Err-Memory.ensures.watches in
    by_memory c.args.items.now reads w.1

pub returns-in-Err-Memory-clause-taken : goal.returns-in-Err-Memory-clause-taken
returns-in-Err-Memory-clause-taken g c = takes c.args.items.now c.in-Err-Memory.ensures.watches.1
