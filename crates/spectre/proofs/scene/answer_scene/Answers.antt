use Rattle.std.proofs.Common.{Err, ap, ◌≡◌, ◌<◌, Option, IfSome, IsSome, length, refl, sym, subst, ◌∙◌, arith}
use Rattle.std.specs.Io.KnownBytes.{Appends}
use Rattle.sp_feed.specs.Kinds.{Said}
use Rattle.sp_feed.specs.Messages.{said_by}
use Rattle.sp_io.specs.Whole.{AppendsFront}
use Rattle.sp_node.specs.Answers.{kept_then, reply_of}
use Rattle.sp_report.specs.Naming.{labels_of}
use Rattle.spectre.proofs.Running.{none_on}
use Rattle.spectre.proofs.Played.{none_played, one_played, said_within, stopped_there}
use Rattle.spectre.proofs.scene.answer_scene.Goals as goal
use Rattle.sp_node.specs.Terms.{Terms}

pub place-init : goal.place-init
place-init g c = record {
  live = c.requires.live;
  plain = c.requires.plain;
  terms = refl;
  played = λ genesis k. none_played (g.K.Sink.taken c.args.sink.now) (labels_of c.args.naming.now) genesis c.args.node.now.terms c.args.node.now.kept c.args.scene.now.messages k;
  quiet = refl;
}

pub message-requires-clause-before_end : goal.message-requires-clause-before_end
message-requires-clause-before_end g c =
    let within : c.place.place < length c.args.scene.now.messages = omega (arith, c.place-test.true, c.len-place-end.ensures) in
    let s = said_within c.args.scene.now.messages c.place.place (said_by c.message-message.result) within c.message-message.ensures.message in
    subst (λ (o : Option Said). IsSome o) (sym s.1) refl

pub returns-in-Err-WriteFault-clause-err : goal.returns-in-Err-WriteFault-clause-err
returns-in-Err-WriteFault-clause-err g c = λ genesis k.
    let taken = g.K.Sink.taken in
    let labels = labels_of c.args.naming.now in
    let kept = c.place.node.kept in
    let within : c.place.place < length c.args.scene.now.messages = omega (arith, c.place-test.true, c.len-place-end.ensures) in
    let s = said_within c.args.scene.now.messages c.place.place (said_by c.message-message.result) within c.message-message.ensures.message in
    let front = subst (λ (o : Option Said). IfSome o (λ said. AppendsFront (taken c.place.sink) (taken c.message.new.sink) (reply_of labels c.place.node.terms kept said))) s.1 c.in-Err-WriteFault.ensures.err in
    stopped_there s.0 (c.place.invariant.played genesis k) within (c.message-message.ensures.message ∙ s.1)
    (subst (λ (n : Terms). AppendsFront (taken c.place.sink) (taken c.message.new.sink) (reply_of labels n kept s.0)) c.place.invariant.terms front)

pub returns-in-Err-Memory-clause-err : goal.returns-in-Err-Memory-clause-err
returns-in-Err-Memory-clause-err g c = λ genesis k.
    let taken = g.K.Sink.taken in
    let labels = labels_of c.args.naming.now in
    let kept = c.place.node.kept in
    let within : c.place.place < length c.args.scene.now.messages = omega (arith, c.place-test.true, c.len-place-end.ensures) in
    let s = said_within c.args.scene.now.messages c.place.place (said_by c.message-message.result) within c.message-message.ensures.message in
    let front = subst (λ (o : Option Said). IfSome o (λ said. AppendsFront (taken c.place.sink) (taken c.message.new.sink) (reply_of labels c.place.node.terms kept said))) s.1 c.in-Err-Memory.ensures.err in
    stopped_there s.0 (c.place.invariant.played genesis k) within (c.message-message.ensures.message ∙ s.1)
    (subst (λ (n : Terms). AppendsFront (taken c.place.sink) (taken c.message.new.sink) (reply_of labels n kept s.0)) c.place.invariant.terms front)

pub unreachable-requires : goal.unreachable-requires
unreachable-requires g c = (c.message.ensures.uncalled c.place.invariant.plain).1 (c.in-Err-DiskFault.is ∙ ap (λ f. Err f) c.in-Err-DiskFault.field-0-is)

pub place-preserved : goal.place-preserved
place-preserved g c =
    let taken = g.K.Sink.taken in
    let labels = labels_of c.args.naming.now in
    let kept = c.place.node.kept in
    let within : c.place.place < length c.args.scene.now.messages = omega (arith, c.place-test.true, c.len-place-end.ensures) in
    let s = said_within c.args.scene.now.messages c.place.place (said_by c.message-message.result) within c.message-message.ensures.message in
    let wrote = subst (λ (o : Option Said). IfSome o (λ said. Appends (taken c.place.sink) (taken c.message.new.sink) (reply_of labels c.place.node.terms kept said))) s.1 c.in-Ok.ensures.ok in
    let then = subst (λ (o : Option Said). IfSome o (λ said. c.message.new.self.kept ≡ kept_then c.place.node.terms.bits kept said)) s.1 c.in-Ok.ensures.kept in
    record {
      live = c.in-Ok.ensures.stopped;
      plain = none_on c.message.new.self.journal c.place.node.journal c.in-Ok.ensures.has c.place.invariant.plain;
      terms = c.in-Ok.ensures.terms ∙ c.place.invariant.terms;
      played = λ genesis k. one_played s.0 (c.place.invariant.played genesis k) within (c.message-message.ensures.message ∙ s.1)
          (subst (λ (n : Terms). Appends (taken c.place.sink) (taken c.message.new.sink) (reply_of labels n kept s.0)) c.place.invariant.terms wrote)
          (subst (λ (n : Terms). c.message.new.self.kept ≡ kept_then n.bits kept s.0) c.place.invariant.terms then);
      quiet = c.in-Ok.ensures.quiet (λ h. cc) ∙ c.place.invariant.quiet;
    }
