use Rattle.std.proofs.Common.{◌≡◌, Err, subst}
use Rattle.std.specs.Io.KnownBytes.{Appends}
use Rattle.sp_io.specs.Whole.{AppendsFront}
use Rattle.sp_io.proofs.Stops.{stops_at_start}
use Rattle.sp_engine.specs.Arrivals.{answer_of}
use Rattle.sp_engine.specs.declared.answer.Answer.{Answer}
use Rattle.sp_report.specs.Lines.{answer_text}
use Rattle.sp_report.specs.Naming.{labels_of}
use Rattle.sp_node.specs.Answers.{reply_of}
use Rattle.sp_node.specs.Node.{State}
use Rattle.sp_node.specs.declared.fault.NodeFault.TheVariants.{DiskFault, Memory}
use Rattle.sp_node.proofs.node.Node.arrive.Goals as goal

pub returns-in-Ok-answer_line-clause-ok : goal.returns-in-Ok-answer_line-clause-ok
unfolding reply_of
returns-in-Ok-answer_line-clause-ok g c =
    let is : c.in-Ok.answer ≡ answer_of c.args.self.now.terms.bits c.args.self.now.kept c.args.bytes.now =
    subst (λ (n : State). c.in-Ok.answer ≡ answer_of n.terms.bits n.kept c.args.bytes.now) c.self.view_is c.in-Ok.ensures.answer in
    subst (λ (a : Answer). Appends (g.K.Sink.taken c.args.sink.now) (g.K.Sink.taken c.answer_line.new.sink) (answer_text (labels_of c.args.naming.now) a)) is c.in-Ok-answer_line.ensures.ok

pub returns-in-Err-clause-err : goal.returns-in-Err-clause-err
unfolding reply_of
returns-in-Err-clause-err g c =
    let is : c.in-Ok.answer ≡ answer_of c.args.self.now.terms.bits c.args.self.now.kept c.args.bytes.now =
    subst (λ (n : State). c.in-Ok.answer ≡ answer_of n.terms.bits n.kept c.args.bytes.now) c.self.view_is c.in-Ok.ensures.answer in
    subst (λ (a : Answer). AppendsFront (g.K.Sink.taken c.args.sink.now) (g.K.Sink.taken c.answer_line.new.sink) (answer_text (labels_of c.args.naming.now) a)) is c.in-Err.ensures.err

pub returns-in-Err-DiskFault-clause-err : goal.returns-in-Err-DiskFault-clause-err
returns-in-Err-DiskFault-clause-err g c = stops_at_start {T = Unit {0}} (Err DiskFault) _ _

pub returns-in-Err-Memory-clause-err : goal.returns-in-Err-Memory-clause-err
returns-in-Err-Memory-clause-err g c = stops_at_start {T = Unit {0}} (Err Memory) _ _
