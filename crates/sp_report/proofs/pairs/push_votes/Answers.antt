use Rattle.std.proofs.Common.{◌+◌, ◌++◌, drop, ◌∙◌}
use Rattle.sp_io.proofs.Pages.{goes_on, stops_there}
use Rattle.sp_io.proofs.Stops.{on_err}
use Rattle.sp_report.specs.Naming.{labels_of}
use Rattle.sp_report.specs.Texts.{pair_text, votes_text}
use Rattle.sp_report.proofs.LinesLeft.{line_next}
use Rattle.sp_report.proofs.pairs.push_votes.Goals as goal

pub returns-in_err-push-clause-err : goal.returns-in_err-push-clause-err
returns-in_err-push-clause-err g c =
    let text = votes_text c.args.engine.now.profile (labels_of c.args.naming.now) c.args.engine.now.kept c.args.first.now in
    let others = c.args.others.now in
    let i = c.other.other-index in
    let e = line_next (λ other. pair_text c.args.engine.now.profile (labels_of c.args.naming.now) c.args.engine.now.kept (c.args.first.now, other)) others i c.other-item.result c.as_slice.result.now c.other-test.true c.other-item.is (c.as_slice.ensures.bytes ∙ c.line_of-line.ensures) in
    on_err c.from_residual.result _
    (stops_there {whole = c.args.page.now ++ text others} c.other.page (text (drop i others)) c.as_slice.result.now (text (drop (i + 1) others)) e c.other.invariant.text c.in_err-push.ensures.err)

pub other-preserved : goal.other-preserved
other-preserved g c =
    let text = votes_text c.args.engine.now.profile (labels_of c.args.naming.now) c.args.engine.now.kept c.args.first.now in
    let others = c.args.others.now in
    let i = c.other.other-index in
    let e = line_next (λ other. pair_text c.args.engine.now.profile (labels_of c.args.naming.now) c.args.engine.now.kept (c.args.first.now, other)) others i c.other-item.result c.as_slice.result.now c.other-test.true c.other-item.is (c.as_slice.ensures.bytes ∙ c.line_of-line.ensures) in
    record {
      text = goes_on {whole = c.args.page.now ++ text others} c.other.page (text (drop i others)) c.as_slice.result.now (text (drop (i + 1) others)) e c.other.invariant.text c.in_ok-push.ensures.ok;
      quiet = c.in_ok-push.ensures.cause.quiet ∙ c.other.invariant.quiet;
    }
