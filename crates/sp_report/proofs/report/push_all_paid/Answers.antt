use Rattle.std.proofs.Common.{◌++◌, length, ◌∙◌}
use Rattle.std.specs.List.{flat_map}
use Rattle.sp_io.proofs.Pages.{head_goes, head_stops, rest_goes, rest_stops}
use Rattle.sp_io.proofs.Stops.{on_err}
use Rattle.sp_report.specs.Naming.{labels_of}
use Rattle.sp_report.specs.Lines.{balance_count_text}
use Rattle.sp_report.specs.Texts.{paid_text, all_paid_text}
use Rattle.sp_report.proofs.report.push_all_paid.Goals as goal

pub returns-in_err-push-clause-err : goal.returns-in_err-push-clause-err
unfolding all_paid_text
returns-in_err-push-clause-err g c =
    on_err c.from_residual.result _
    (head_stops c.args.page.now c.as_slice.result.now (balance_count_text (length c.args.locks.now)) (flat_map (paid_text c.args.engine.now.profile (labels_of c.args.naming.now) c.args.engine.now.kept) c.args.locks.now) (c.as_slice.ensures.bytes ∙ c.balance_count_line-line.ensures) c.in_err-push.ensures.err)

pub returns-clause-ok : goal.returns-clause-ok
unfolding all_paid_text
returns-clause-ok g c =
    let taken = g.K.Sink.taken in
    let head = balance_count_text (length c.args.locks.now) in
    let rest = flat_map (paid_text c.args.engine.now.profile (labels_of c.args.naming.now) c.args.engine.now.kept) c.args.locks.now in
    let w = head_goes c.args.page.now c.as_slice.result.now head rest (c.as_slice.ensures.bytes ∙ c.balance_count_line-line.ensures) c.in_ok-push.ensures.ok in
    rest_goes (taken c.args.sink.now) (taken c.push.new.sink) (taken c.push_paid.new.sink) (c.args.page.now ++ (head ++ rest)) (c.push.new.self ++ rest) c.push_paid.new.page c.push_paid.result w c.push_paid.ensures.ok

pub returns-clause-err : goal.returns-clause-err
unfolding all_paid_text
returns-clause-err g c =
    let taken = g.K.Sink.taken in
    let head = balance_count_text (length c.args.locks.now) in
    let rest = flat_map (paid_text c.args.engine.now.profile (labels_of c.args.naming.now) c.args.engine.now.kept) c.args.locks.now in
    let w = head_goes c.args.page.now c.as_slice.result.now head rest (c.as_slice.ensures.bytes ∙ c.balance_count_line-line.ensures) c.in_ok-push.ensures.ok in
    rest_stops (taken c.args.sink.now) (taken c.push.new.sink) (taken c.push_paid.new.sink) (c.args.page.now ++ (head ++ rest)) (c.push.new.self ++ rest) c.push_paid.result w c.push_paid.ensures.err
