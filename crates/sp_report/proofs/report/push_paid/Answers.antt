use Rattle.std.proofs.Common.{◌+◌, drop, ◌∙◌}
use Rattle.std.specs.List.{flat_map}
use Rattle.sp_io.proofs.Pages.{goes_on, stops_there}
use Rattle.sp_io.proofs.Stops.{on_err}
use Rattle.sp_report.specs.Naming.{labels_of}
use Rattle.sp_report.specs.Texts.{paid_text}
use Rattle.sp_report.proofs.LinesLeft.{line_next}
use Rattle.sp_report.proofs.report.push_paid.Goals as goal

pub returns-in_err-push-clause-err : goal.returns-in_err-push-clause-err
returns-in_err-push-clause-err g c =
    let text = flat_map (paid_text c.args.engine.now.profile (labels_of c.args.naming.now) c.args.engine.now.kept) in
    let locks = c.args.locks.now in
    let i = c.lock.lock-index in
    let e = line_next (paid_text c.args.engine.now.profile (labels_of c.args.naming.now) c.args.engine.now.kept) locks i c.lock-item.result c.as_slice.result.now c.lock-test.true c.lock-item.is (c.as_slice.ensures.bytes ∙ c.line_of-line.ensures) in
    on_err c.from_residual.result _
    (stops_there c.lock.page (text (drop i locks)) c.as_slice.result.now (text (drop (i + 1) locks)) e c.lock.invariant.text c.in_err-push.ensures.err)

pub lock-preserved : goal.lock-preserved
lock-preserved g c =
    let text = flat_map (paid_text c.args.engine.now.profile (labels_of c.args.naming.now) c.args.engine.now.kept) in
    let locks = c.args.locks.now in
    let i = c.lock.lock-index in
    let e = line_next (paid_text c.args.engine.now.profile (labels_of c.args.naming.now) c.args.engine.now.kept) locks i c.lock-item.result c.as_slice.result.now c.lock-test.true c.lock-item.is (c.as_slice.ensures.bytes ∙ c.line_of-line.ensures) in
    record {
      text = goes_on c.lock.page (text (drop i locks)) c.as_slice.result.now (text (drop (i + 1) locks)) e c.lock.invariant.text c.in_ok-push.ensures.ok;
      quiet = c.in_ok-push.ensures.cause.quiet ∙ c.lock.invariant.quiet;
    }
