use Rattle.std.proofs.Common.{◌≡◌, ◌++◌, None, Some, refl, ap, sym, ◌∙◌}
use Rattle.std.proofs.lemmas.Result.{err_from_is_err_and}
use Rattle.sp_feed.specs.Kinds.{messages_of}
use Rattle.sp_feed.specs.Reader.{last_of}
use Rattle.sp_feed.proofs.WholeFeeds.{all_end, all_fault, all_refused, behind_open, from_limit, so_far_more, tells}
use Rattle.sp_feed.proofs.run.show_messages.Goals as goal

pub returns-in_err-next-clause-gives : goal.returns-in_err-next-clause-gives
returns-in_err-next-clause-gives g c =
    let p = err_from_is_err_and c.from_residual.result c.from_residual.ensures.1 in
    rw (p.1, p.2) (λ start h before f. all_fault _ (c.messages.invariant.so_far start h before f) (from_limit c.messages.invariant.limit (c.in_err-next.ensures.gives c.messages.invariant.unended)))

pub returns-in-End-clause-gives : goal.returns-in-End-clause-gives
returns-in-End-clause-gives g c = λ start h before f. all_end _ tt (c.messages.invariant.so_far start h before f) (from_limit c.messages.invariant.limit (c.in_ok-next.ensures.gives c.messages.invariant.unended)) (sym c.in-End.ensures) refl

pub messages-preserved : goal.messages-preserved
messages-preserved g c =
    let s = tells c.message-message.result c.in_default.not-End in
    let is : last_of c.next.new.self.stage ≡ Some s.0 = sym c.message-message.ensures ∙ s.1 in
    record {
      limit = c.in_ok-next.ensures.limit ∙ c.messages.invariant.limit;
      opened = behind_open _ c.in_ok-next.ensures.ok;
      unended = λ e. let no : None ≡ Some s.0 = sym (ap last_of e) ∙ is in cc;
      so_far = λ start h before f. so_far_more s.0 _ (c.messages.invariant.so_far start h before f) (from_limit c.messages.invariant.limit (c.in_ok-next.ensures.gives c.messages.invariant.unended)) is
          (c.in_ok-visit-in_default.ensures.ok ∙ ap (λ m. g.V.Visitor.seen c.messages.visitor ++ messages_of m) s.1);
      quiet = c.in_ok-next.ensures.quiet ∙ c.messages.invariant.quiet;
    }

pub returns-in_err-visit-in_default-clause-gives : goal.returns-in_err-visit-in_default-clause-gives
returns-in_err-visit-in_default-clause-gives g c =
    let p = err_from_is_err_and c.from_residual-in_err-visit-in_default.result c.from_residual-in_err-visit-in_default.ensures.1 in
    let s = tells c.message-message.result c.in_default.not-End in
    let is : last_of c.next.new.self.stage ≡ Some s.0 = sym c.message-message.ensures ∙ s.1 in
    rw (p.1, p.2) (λ start h before f. all_refused _ s.0 _ (c.messages.invariant.so_far start h before f) (from_limit c.messages.invariant.limit (c.in_ok-next.ensures.gives c.messages.invariant.unended)) is c.in_err-visit-in_default.ensures.err)
