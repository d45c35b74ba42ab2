use Rattle.std.proofs.Common.{[], ◌+◌, ◌++◌, drop, subst, ◌∙◌, List, ℕ, arith}
use Rattle.sp_feed.specs.declared.kind.Kind.TheVariants.{End}
use Rattle.sp_feed.specs.Messages.{said_by}
use Rattle.sp_feed.specs.Spelling.{framed, frames_of}
use Rattle.sp_io.specs.Whole.{Wrote}
use Rattle.sp_io.proofs.Pages.{goes_on, rest_goes, rest_stops, stops_there}
use Rattle.sp_io.proofs.Stops.{on_err}
use Rattle.sp_play.specs.Feeds.{frame_text}
use Rattle.sp_play.proofs.Fitting.{frames_end, frames_next}
use Rattle.sp_play.proofs.feeding.push_messages.Goals as goal

pub returns-in_err-push_message-clause-err : goal.returns-in_err-push_message-clause-err
returns-in_err-push_message-clause-err g c =
    let messages = c.args.scene.now.messages in
    let i = c.place.place in
    let said = said_by c.message-message.result in
    let e = frames_next messages i said (omega (arith, c.place-test.true, c.len-place-end.ensures)) c.message-message.ensures.message in
    on_err c.from_residual.result _
    (stops_there {whole = c.args.page.now ++ frames_of messages} c.place.page (frames_of (drop i messages)) (frame_text said) (frames_of (drop (i + 1) messages)) e c.place.invariant.text c.in_err-push_message.ensures.err)

pub place-preserved : goal.place-preserved
place-preserved g c =
    let messages = c.args.scene.now.messages in
    let i = c.place.place in
    let said = said_by c.message-message.result in
    let e = frames_next messages i said (omega (arith, c.place-test.true, c.len-place-end.ensures)) c.message-message.ensures.message in
    record {
      text = goes_on {whole = c.args.page.now ++ frames_of messages} c.place.page (frames_of (drop i messages)) (frame_text said) (frames_of (drop (i + 1) messages)) e c.place.invariant.text c.in_ok-push_message.ensures.ok;
      quiet = c.in_ok-push_message.ensures.cause.quiet ∙ c.place.invariant.quiet;
    }

pub returns-clause-ok : goal.returns-clause-ok
returns-clause-ok g c =
    let taken = g.K.Sink.taken in
    let messages = c.args.scene.now.messages in
    let page = c.place.page in
    let whole = c.args.page.now ++ frames_of messages in
    let e = frames_end messages c.place.place (omega (arith, c.place-test.false, c.len-place-end.ensures)) in
    let w = subst (λ (t : List ℕ). Wrote (taken c.args.sink.now) (taken c.place.sink) whole (page ++ t)) e c.place.invariant.text in
    rest_goes (taken c.args.sink.now) (taken c.place.sink) (taken c.push_message-2.new.sink) whole (page ++ framed End []) c.push_message-2.new.page c.push_message-2.result w c.push_message-2.ensures.ok

pub returns-clause-err : goal.returns-clause-err
returns-clause-err g c =
    let taken = g.K.Sink.taken in
    let messages = c.args.scene.now.messages in
    let page = c.place.page in
    let whole = c.args.page.now ++ frames_of messages in
    let e = frames_end messages c.place.place (omega (arith, c.place-test.false, c.len-place-end.ensures)) in
    let w = subst (λ (t : List ℕ). Wrote (taken c.args.sink.now) (taken c.place.sink) whole (page ++ t)) e c.place.invariant.text in
    rest_stops (taken c.args.sink.now) (taken c.place.sink) (taken c.push_message-2.new.sink) whole (page ++ framed End []) c.push_message-2.result w c.push_message-2.ensures.err
