use Rattle.std.proofs.Common.{[]}
use Rattle.spectre.specs.Faults.{EndsWhole}
use Rattle.spectre.specs.declared.status.Status.TheVariants as status
use Rattle.spectre.proofs.FeedRuns.{whole_status}
use Rattle.spectre.proofs.JobRuns.{replay_by_fault, replay_ended, replay_front}
use Rattle.spectre.proofs.Replayed.{done_rest, done_text, memory_text, takes, takes_then, write_text}
use Rattle.spectre.proofs.replay.replay.Goals as goal

pub returns-in-Ok-clause-by : goal.returns-in-Ok-clause-by
returns-in-Ok-clause-by g c = λ reads.
    let r = c.in-Ok.ensures.replies.1 in
    (replay_ended (g.S.Source.left c.args.source.now) (g.K.Sink.taken c.args.sink.now) (g.K.Sink.taken c.answer_messages.new.sink) status.Done EndsWhole whole_status (done_text [] r), done_rest r)

pub returns-in-Err-Feed-clause-by : goal.returns-in-Err-Feed-clause-by
returns-in-Err-Feed-clause-by g c = λ reads.
    let r = rw c.in-Err-Feed.field-0-is at c.in-Err-Feed.ensures.replies in
    replay_by_fault reads (g.K.Sink.taken c.write_fault.new.sink) c.in-Err-Feed.fault c.write_fault.result r.1 c.write_fault.ensures.status c.write_fault.ensures.text c.write_fault.ensures.front c.write_fault.ensures.read_fault

pub returns-in-Err-WriteFault-clause-by : goal.returns-in-Err-WriteFault-clause-by
returns-in-Err-WriteFault-clause-by g c = λ reads.
    let r = rw c.in-Err-WriteFault.field-0-is at c.in-Err-WriteFault.ensures.replies in
    replay_front (g.S.Source.left c.args.source.now) (g.K.Sink.taken c.args.sink.now) (g.K.Sink.taken c.answer_messages.new.sink) (write_text [] r.1)

pub returns-in-Err-Memory-clause-by : goal.returns-in-Err-Memory-clause-by
returns-in-Err-Memory-clause-by g c = λ reads.
    let r = rw c.in-Err-Memory.field-0-is at c.in-Err-Memory.ensures.replies in
    replay_front (g.S.Source.left c.args.source.now) (g.K.Sink.taken c.args.sink.now) (g.K.Sink.taken c.answer_messages.new.sink) (memory_text [] r.1)

pub returns-in-Ok-clause-taken : goal.returns-in-Ok-clause-taken
returns-in-Ok-clause-taken g c = takes c.in-Ok.ensures.replies.1

pub returns-in-Err-Feed-clause-taken : goal.returns-in-Err-Feed-clause-taken
returns-in-Err-Feed-clause-taken g c = takes_then _ _ _ _ _ _ _ (takes c.in-Err-Feed.ensures.replies.1) c.write_fault.ensures.front

pub returns-in-Err-WriteFault-clause-taken : goal.returns-in-Err-WriteFault-clause-taken
returns-in-Err-WriteFault-clause-taken g c = takes c.in-Err-WriteFault.ensures.replies.1

pub returns-in-Err-Memory-clause-taken : goal.returns-in-Err-Memory-clause-taken
returns-in-Err-Memory-clause-taken g c = takes c.in-Err-Memory.ensures.replies.1
