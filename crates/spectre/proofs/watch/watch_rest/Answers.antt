use Rattle.std.proofs.Common.{◌≡◌, ◌∙◌, None, Some, Err, IfSome, Option, ap, sym, subst}
use Rattle.std.specs.Io.KnownBytes.{Appends}
use Rattle.std.proofs.lemmas.Result.{err_from_is_err_and}
use Rattle.sp_io.specs.Whole.{AppendsFront}
use Rattle.sp_feed.specs.Kinds.{Said}
use Rattle.sp_feed.specs.Reader.{last_of}
use Rattle.sp_feed.proofs.WholeFeeds.{behind_open, from_limit, tells}
use Rattle.sp_node.specs.Answers.{kept_then}
use Rattle.spectre.specs.Watching.{answer_then, watch_then}
use Rattle.spectre.specs.declared.replay.ReplayFault.TheVariants.{Feed}
use Rattle.spectre.proofs.Replies.{quiet_next}
use Rattle.spectre.proofs.WatchedFeeds.{at_end, at_fault, not_told, one_more, quiet_stop, stop_cause, undisked}
use Rattle.spectre.proofs.WatchedMessages.{count_then}
use Rattle.spectre.proofs.watch.watch_rest.Goals as goal

pub returns-in_err-next-clause-follows : goal.returns-in_err-next-clause-follows
returns-in_err-next-clause-follows g c =
    let p = err_from_is_err_and c.from_residual.result c.from_residual.ensures.1 in
    rw (p.1, p.2) (λ items start old h. at_fault items (c.messages.invariant.following items start old h) c.messages.watch (from_limit c.messages.invariant.limit (c.in_err-next.ensures.gives c.messages.invariant.unended)))

pub returns-in_err-next-clause-read_quiet : goal.returns-in_err-next-clause-read_quiet
returns-in_err-next-clause-read_quiet g c =
    let p = err_from_is_err_and c.from_residual.result c.from_residual.ensures.1 in
    rw (p.1, p.2) (λ other. quiet_next _ _ _ c.in_err-next.ensures.quiet (λ h. other (ap (λ t. Err (Feed t)) h)) ∙ c.messages.invariant.read_quiet)

pub returns-in_err-next-clause-cause : goal.returns-in_err-next-clause-cause
returns-in_err-next-clause-cause g c =
    let p = err_from_is_err_and c.from_residual.result c.from_residual.ensures.1 in
    rw (p.1, p.2) tt

pub returns-in-End-clause-follows : goal.returns-in-End-clause-follows
returns-in-End-clause-follows g c = λ items start old h. at_end items (c.messages.invariant.following items start old h) (from_limit c.messages.invariant.limit (c.in_ok-next.ensures.gives c.messages.invariant.unended)) (sym c.in-End.ensures)

pub messages-preserved : goal.messages-preserved
messages-preserved g c =
    let s = tells c.message-message.result c.in_default.not-End in
    let is : last_of c.next.new.self.stage ≡ Some s.0 = sym c.message-message.ensures ∙ s.1 in
    let terms = c.messages.node.terms in
    let kept = c.messages.node.kept in
    let w = c.messages.watch in
    let e = c.in_ok-answer_and_tell-in_default.ensures in
    let then = subst (λ (o : Option Said). IfSome o (λ said. c.answer_and_tell.new.node.kept ≡ kept_then terms.bits kept said)) s.1 e.kept in
    let seen = subst (λ (o : Option Said). IfSome o (λ said. c.answer_and_tell.new.watch ≡ watch_then terms.profile w (kept_then terms.bits kept said) said)) s.1 e.watch in
    record {
      limit = c.in_ok-next.ensures.limit ∙ c.messages.invariant.limit;
      opened = behind_open _ c.in_ok-next.ensures.ok;
      unended = λ e. let no : None ≡ Some s.0 = sym (ap last_of e) ∙ is in cc;
      live = e.live;
      plain = e.plain;
      few = count_then terms.profile w (kept_then terms.bits kept s.0) s.0 c.answer_and_tell.new.watch seen c.messages.reader.taken c.next.new.self.taken c.messages.invariant.few (c.in_ok-next.ensures.progress c.messages.invariant.unended);
      following = λ items start old h. one_more items (c.messages.invariant.following items start old h) s.0 (from_limit c.messages.invariant.limit (c.in_ok-next.ensures.gives c.messages.invariant.unended)) is
          (subst (λ (o : Option Said). IfSome o (λ said. Appends (g.K.Sink.taken c.messages.sink) (g.K.Sink.taken c.answer_and_tell.new.sink) (answer_then terms kept w said))) s.1 e.ok)
          then seen e.terms;
      read_quiet = c.in_ok-next.ensures.quiet ∙ c.messages.invariant.read_quiet;
      write_quiet = e.quiet (λ h. cc) ∙ c.messages.invariant.write_quiet;
    }

pub returns-in_err-answer_and_tell-in_default : goal.returns-in_err-answer_and_tell-in_default
returns-in_err-answer_and_tell-in_default g c =
    let p = err_from_is_err_and c.from_residual-in_err-answer_and_tell-in_default.result c.from_residual-in_err-answer_and_tell-in_default.ensures.1 in
    let s = tells c.message-message.result c.in_default.not-End in
    let is : last_of c.next.new.self.stage ≡ Some s.0 = sym c.message-message.ensures ∙ s.1 in
    let e = c.in_err-answer_and_tell-in_default.ensures in
    let f = c.in_err-answer_and_tell-in_default.field-0.0 in
    let front = subst (λ (o : Option Said). IfSome o (λ said. AppendsFront (g.K.Sink.taken c.messages.sink) (g.K.Sink.taken c.answer_and_tell.new.sink) (answer_then c.messages.node.terms c.messages.node.kept c.messages.watch said))) s.1 e.err in
    rw (p.1, p.2) (record {
      follows = λ items start old h. not_told items (c.messages.invariant.following items start old h) c.answer_and_tell.new.watch f s.0 (from_limit c.messages.invariant.limit (c.in_ok-next.ensures.gives c.messages.invariant.unended)) is front;
      undisked = λ d. undisked f d;
      cause = stop_cause f _ _ _ c.messages.invariant.write_quiet e.cause;
      read_quiet = λ _. c.in_ok-next.ensures.quiet ∙ c.messages.invariant.read_quiet;
      write_quiet = λ other. quiet_stop f _ _ (λ k. e.quiet (λ h. k cc)) (λ h. other (ap (λ t. Err t) h)) ∙ c.messages.invariant.write_quiet;
    })
