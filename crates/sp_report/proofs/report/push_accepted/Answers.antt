use Rattle.std.proofs.Common.{◌+◌, drop, ◌∙◌}
use Rattle.std.specs.List.{flat_map}
use Rattle.sp_io.proofs.Pages.{goes_on, stops_there}
use Rattle.sp_io.proofs.Stops.{on_err}
use Rattle.sp_report.specs.Naming.{labels_of}
use Rattle.sp_report.specs.Texts.{accepted_text}
use Rattle.sp_report.proofs.LinesLeft.{line_next}
use Rattle.sp_report.proofs.report.push_accepted.Goals as goal

pub returns-in_err-push-clause-err : goal.returns-in_err-push-clause-err
returns-in_err-push-clause-err g c =
    let text = flat_map (accepted_text (labels_of c.args.naming.now)) in
    let ids = c.args.ids.now in
    let i = c.id.id-index in
    let e = line_next (accepted_text (labels_of c.args.naming.now)) ids i c.id-item.result c.as_slice.result.now c.id-test.true c.id-item.is (c.as_slice.ensures.bytes ∙ c.accepted_line-line.ensures) in
    on_err c.from_residual.result _
    (stops_there c.id.page (text (drop i ids)) c.as_slice.result.now (text (drop (i + 1) ids)) e c.id.invariant.text c.in_err-push.ensures.err)

pub id-preserved : goal.id-preserved
id-preserved g c =
    let text = flat_map (accepted_text (labels_of c.args.naming.now)) in
    let ids = c.args.ids.now in
    let i = c.id.id-index in
    let e = line_next (accepted_text (labels_of c.args.naming.now)) ids i c.id-item.result c.as_slice.result.now c.id-test.true c.id-item.is (c.as_slice.ensures.bytes ∙ c.accepted_line-line.ensures) in
    record {
      text = goes_on c.id.page (text (drop i ids)) c.as_slice.result.now (text (drop (i + 1) ids)) e c.id.invariant.text c.in_ok-push.ensures.ok;
      quiet = c.in_ok-push.ensures.cause.quiet ∙ c.id.invariant.quiet;
    }
