use Rattle.std.proofs.Common.{◌≡◌, ◌∙◌, None, Some, IfSome, Option, ap, sym, subst}
use Rattle.std.proofs.lemmas.Result.{err_from_is_err_and}
use Rattle.sp_feed.specs.Kinds.{Said}
use Rattle.sp_feed.specs.Reader.{last_of}
use Rattle.sp_feed.proofs.WholeFeeds.{behind_open, from_limit, tells}
use Rattle.sp_node.specs.Answers.{kept_then}
use Rattle.spectre.proofs.BroughtBlocks.{at_end, at_fault, one_more, refused}
use Rattle.spectre.proofs.bringing.bring_rest.Goals as goal

pub returns-in_err-next-clause-brought : goal.returns-in_err-next-clause-brought
returns-in_err-next-clause-brought g c =
    let p = err_from_is_err_and c.from_residual.result c.from_residual.ensures.1 in
    rw (p.1, p.2) (λ start h. at_fault (c.messages.invariant.bringing start h) (from_limit c.messages.invariant.limit (c.in_err-next.ensures.gives c.messages.invariant.unended)))

pub returns-in-End-clause-brought : goal.returns-in-End-clause-brought
returns-in-End-clause-brought g c = λ start h. at_end (c.messages.invariant.bringing start h) (from_limit c.messages.invariant.limit (c.in_ok-next.ensures.gives c.messages.invariant.unended)) (sym c.in-End.ensures)

pub messages-preserved : goal.messages-preserved
messages-preserved g c =
    let s = tells c.message-message.result c.in_default.not-End in
    let is : last_of c.next.new.self.stage ≡ Some s.0 = sym c.message-message.ensures ∙ s.1 in
    let e = c.in_ok-bring-in_default.ensures in
    let engine = c.messages.engine in
    let then = subst (λ (o : Option Said). IfSome o (λ said. c.bring.new.engine.kept ≡ kept_then engine.bits engine.kept said)) s.1 e.kept in
    record {
      limit = c.in_ok-next.ensures.limit ∙ c.messages.invariant.limit;
      opened = behind_open _ c.in_ok-next.ensures.ok;
      unended = λ e. let no : None ≡ Some s.0 = sym (ap last_of e) ∙ is in cc;
      bringing = λ start h. one_more s.0 (c.messages.invariant.bringing start h) (from_limit c.messages.invariant.limit (c.in_ok-next.ensures.gives c.messages.invariant.unended)) is then e.profile e.bits;
      quiet = c.in_ok-next.ensures.quiet ∙ c.messages.invariant.quiet;
    }

pub returns-in_err-bring-in_default-clause-brought : goal.returns-in_err-bring-in_default-clause-brought
returns-in_err-bring-in_default-clause-brought g c =
    let p = err_from_is_err_and c.from_residual-in_err-bring-in_default.result c.from_residual-in_err-bring-in_default.ensures.1 in
    let s = tells c.message-message.result c.in_default.not-End in
    let is : last_of c.next.new.self.stage ≡ Some s.0 = sym c.message-message.ensures ∙ s.1 in
    rw (p.1, p.2) (λ start h. refused (c.messages.invariant.bringing start h) s.0 (from_limit c.messages.invariant.limit (c.in_ok-next.ensures.gives c.messages.invariant.unended)) is)
