use Rattle.std.proofs.Common.{◌∙◌, List, ℕ, OnErr, OnOk, sym, subst}
use Rattle.std.specs.Io.KnownBytes.{Appends}
use Rattle.sp_io.specs.Whole.{AppendsFront}
use Rattle.sp_report.specs.Naming.{labels_of}
use Rattle.spectre.proofs.Gossiping.{answers_text, nothing_sent, packet_sent}
use Rattle.spectre.proofs.gossip.steps.write_step.Goals as goal

pub returns-then-not-is_empty-clause-ok : goal.returns-then-not-is_empty-clause-ok
returns-then-not-is_empty-clause-ok g c =
    let taken = g.K.Sink.taken in
    let is = answers_text (labels_of c.args.naming.now) c.args.net.now.packets c.args.step.now c.as_slice-answers.result.now c.as_slice-answers.ensures (sym c.if-not-is_empty.ensures) in
    subst (λ (t : List ℕ). OnOk c.write_answers.result (Appends (taken c.args.sink.now) (taken c.write_answers.new.sink) t)) is c.write_answers.ensures.ok

pub returns-then-not-is_empty-clause-err : goal.returns-then-not-is_empty-clause-err
returns-then-not-is_empty-clause-err g c =
    let taken = g.K.Sink.taken in
    let is = answers_text (labels_of c.args.naming.now) c.args.net.now.packets c.args.step.now c.as_slice-answers.result.now c.as_slice-answers.ensures (sym c.if-not-is_empty.ensures) in
    subst (λ (t : List ℕ). OnErr c.write_answers.result (AppendsFront (taken c.args.sink.now) (taken c.write_answers.new.sink) t)) is c.write_answers.ensures.err

pub returns-in-Some-clause-ok : goal.returns-in-Some-clause-ok
returns-in-Some-clause-ok g c =
    let taken = g.K.Sink.taken in
    let is = c.as_slice.ensures.bytes ∙ c.sent_line.ensures ∙ packet_sent (labels_of c.args.naming.now) c.args.net.now.packets c.args.step.now c.as_slice-answers.result.now c.in-Some.number c.packet.result.now c.as_slice-answers.ensures (sym c.if-not-is_empty.ensures) c.in-Some.is c.packet.ensures in
    subst (λ (t : List ℕ). OnOk c.write_whole.result (Appends (taken c.args.sink.now) (taken c.write_whole.new.sink) t)) is c.write_whole.ensures.ok

pub returns-in-Some-clause-err : goal.returns-in-Some-clause-err
returns-in-Some-clause-err g c =
    let taken = g.K.Sink.taken in
    let is = c.as_slice.ensures.bytes ∙ c.sent_line.ensures ∙ packet_sent (labels_of c.args.naming.now) c.args.net.now.packets c.args.step.now c.as_slice-answers.result.now c.in-Some.number c.packet.result.now c.as_slice-answers.ensures (sym c.if-not-is_empty.ensures) c.in-Some.is c.packet.ensures in
    subst (λ (t : List ℕ). OnErr c.write_whole.result (AppendsFront (taken c.args.sink.now) (taken c.write_whole.new.sink) t)) is c.write_whole.ensures.err

pub returns-in-None-clause-ok : goal.returns-in-None-clause-ok
returns-in-None-clause-ok g c =
    let taken = g.K.Sink.taken in
    let is = c.as_slice-in-None.ensures.bytes ∙ c.idle_line.ensures ∙ nothing_sent (labels_of c.args.naming.now) c.args.net.now.packets c.args.step.now c.as_slice-answers.result.now c.as_slice-answers.ensures (sym c.if-not-is_empty.ensures) c.in-None.is in
    subst (λ (t : List ℕ). OnOk c.write_whole-in-None.result (Appends (taken c.args.sink.now) (taken c.write_whole-in-None.new.sink) t)) is c.write_whole-in-None.ensures.ok

pub returns-in-None-clause-err : goal.returns-in-None-clause-err
returns-in-None-clause-err g c =
    let taken = g.K.Sink.taken in
    let is = c.as_slice-in-None.ensures.bytes ∙ c.idle_line.ensures ∙ nothing_sent (labels_of c.args.naming.now) c.args.net.now.packets c.args.step.now c.as_slice-answers.result.now c.as_slice-answers.ensures (sym c.if-not-is_empty.ensures) c.in-None.is in
    subst (λ (t : List ℕ). OnErr c.write_whole-in-None.result (AppendsFront (taken c.args.sink.now) (taken c.write_whole-in-None.new.sink) t)) is c.write_whole-in-None.ensures.err
