use Rattle.std.proofs.Common.{◌∙◌, List, ℕ, sym, ap, subst}
use Rattle.std.specs.Io.KnownBytes.{Appends}
use Rattle.sp_gossip.specs.declared.step.StepFault.TheVariants.{NoNode, NoPacket, Many}
use Rattle.sp_io.specs.Whole.{AppendsFront}
use Rattle.sp_io.proofs.Stops.{on_err}
use Rattle.sp_io.proofs.Writing.{wrote_none}
use Rattle.sp_report.specs.Naming.{labels_of}
use Rattle.spectre.specs.Gossips.{event_turn, Turn}
use Rattle.spectre.proofs.Gossiping.{as_before, happens, many_faults, node_faults, none_written, packet_faults, reason_told, wrote_step}
use Rattle.spectre.proofs.gossip.steps.play_event.Goals as goal

pub returns-in_err-write_step-in-Ok-clause-err : goal.returns-in_err-write_step-in-Ok-clause-err
returns-in_err-write_step-in-Ok-clause-err g c =
    let taken = g.K.Sink.taken in
    let is = wrote_step (labels_of c.args.naming.now) c.args.net.now c.args.event.now c.in-Ok.step c.step.new.self c.in-Ok.ensures.step c.in-Ok.ensures.after c.in-Ok.ensures.ok in
    on_err c.from_residual.result _ (subst (λ (t : List ℕ). AppendsFront (taken c.args.sink.now) (taken c.write_step.new.sink) t) is c.in_err-write_step-in-Ok.ensures.err)

pub returns-in_ok-write_step-in-Ok-clause-fault : goal.returns-in_ok-write_step-in-Ok-clause-fault
returns-in_ok-write_step-in-Ok-clause-fault g c = sym (ap (λ (t : Turn). t.fault) (happens (labels_of c.args.naming.now) c.args.net.now c.args.event.now c.in-Ok.ensures.ok))

pub returns-in_ok-write_step-in-Ok-clause-after : goal.returns-in_ok-write_step-in-Ok-clause-after
returns-in_ok-write_step-in-Ok-clause-after g c =
    c.in-Ok.ensures.after ∙ sym (ap (λ (t : Turn). t.net) (happens (labels_of c.args.naming.now) c.args.net.now c.args.event.now c.in-Ok.ensures.ok))

pub returns-in_ok-write_step-in-Ok-clause-ok : goal.returns-in_ok-write_step-in-Ok-clause-ok
returns-in_ok-write_step-in-Ok-clause-ok g c =
    let taken = g.K.Sink.taken in
    let is = wrote_step (labels_of c.args.naming.now) c.args.net.now c.args.event.now c.in-Ok.step c.step.new.self c.in-Ok.ensures.step c.in-Ok.ensures.after c.in-Ok.ensures.ok in
    subst (λ (t : List ℕ). Appends (taken c.args.sink.now) (taken c.write_step.new.sink) t) is c.in_ok-write_step-in-Ok.ensures.ok

pub returns-in-Err-NoNode-clause-fault : goal.returns-in-Err-NoNode-clause-fault
returns-in-Err-NoNode-clause-fault g c = reason_told (labels_of c.args.naming.now) c.args.net.now c.step.new.self c.args.event.now c.in-Err-NoNode.field-0 NoNode c.in-Err-NoNode.ensures.fault c.in-Err-NoNode.field-0-is node_faults

pub returns-in-Err-NoNode-clause-after : goal.returns-in-Err-NoNode-clause-after
returns-in-Err-NoNode-clause-after g c = as_before (labels_of c.args.naming.now) c.args.net.now c.step.new.self c.args.event.now c.in-Err-NoNode.field-0 NoNode c.in-Err-NoNode.ensures.fault c.in-Err-NoNode.field-0-is node_faults c.in-Err-NoNode.ensures.same

pub returns-in-Err-NoNode-clause-ok : goal.returns-in-Err-NoNode-clause-ok
returns-in-Err-NoNode-clause-ok g c = none_written (labels_of c.args.naming.now) c.args.net.now c.step.new.self c.args.event.now c.in-Err-NoNode.field-0 NoNode c.in-Err-NoNode.ensures.fault c.in-Err-NoNode.field-0-is node_faults (g.K.Sink.taken c.args.sink.now)

pub returns-in-Err-NoPacket-clause-fault : goal.returns-in-Err-NoPacket-clause-fault
returns-in-Err-NoPacket-clause-fault g c = reason_told (labels_of c.args.naming.now) c.args.net.now c.step.new.self c.args.event.now c.in-Err-NoPacket.field-0 NoPacket c.in-Err-NoPacket.ensures.fault c.in-Err-NoPacket.field-0-is packet_faults

pub returns-in-Err-NoPacket-clause-after : goal.returns-in-Err-NoPacket-clause-after
returns-in-Err-NoPacket-clause-after g c = as_before (labels_of c.args.naming.now) c.args.net.now c.step.new.self c.args.event.now c.in-Err-NoPacket.field-0 NoPacket c.in-Err-NoPacket.ensures.fault c.in-Err-NoPacket.field-0-is packet_faults c.in-Err-NoPacket.ensures.same

pub returns-in-Err-NoPacket-clause-ok : goal.returns-in-Err-NoPacket-clause-ok
returns-in-Err-NoPacket-clause-ok g c = none_written (labels_of c.args.naming.now) c.args.net.now c.step.new.self c.args.event.now c.in-Err-NoPacket.field-0 NoPacket c.in-Err-NoPacket.ensures.fault c.in-Err-NoPacket.field-0-is packet_faults (g.K.Sink.taken c.args.sink.now)

pub returns-in-Err-Many-clause-fault : goal.returns-in-Err-Many-clause-fault
returns-in-Err-Many-clause-fault g c = reason_told (labels_of c.args.naming.now) c.args.net.now c.step.new.self c.args.event.now c.in-Err-Many.field-0 Many c.in-Err-Many.ensures.fault c.in-Err-Many.field-0-is many_faults

pub returns-in-Err-Many-clause-after : goal.returns-in-Err-Many-clause-after
returns-in-Err-Many-clause-after g c = as_before (labels_of c.args.naming.now) c.args.net.now c.step.new.self c.args.event.now c.in-Err-Many.field-0 Many c.in-Err-Many.ensures.fault c.in-Err-Many.field-0-is many_faults c.in-Err-Many.ensures.same

pub returns-in-Err-Many-clause-ok : goal.returns-in-Err-Many-clause-ok
returns-in-Err-Many-clause-ok g c = none_written (labels_of c.args.naming.now) c.args.net.now c.step.new.self c.args.event.now c.in-Err-Many.field-0 Many c.in-Err-Many.ensures.fault c.in-Err-Many.field-0-is many_faults (g.K.Sink.taken c.args.sink.now)

pub returns-in-Err-Memory-clause-err : goal.returns-in-Err-Memory-clause-err
returns-in-Err-Memory-clause-err g c =
    let text = (event_turn (labels_of c.args.naming.now) c.args.net.now c.args.event.now).text in
    (text, wrote_none (g.K.Sink.taken c.args.sink.now) text)
