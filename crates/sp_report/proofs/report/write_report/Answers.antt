use Rattle.std.proofs.Common.{◌++◌, refl, ◌∙◌}
use Rattle.sp_io.proofs.Pages.{all_goes, front_then, goes_on, rest_stops, start_goes, start_stops, stops_there, wrote_then}
use Rattle.sp_io.proofs.Stops.{on_err}
use Rattle.sp_report.specs.Naming.{labels_of}
use Rattle.sp_report.specs.Texts.{all_accepted_text, all_paid_text, counts_text}
use Rattle.sp_report.proofs.report.write_report.Goals as goal

pub returns-in_err-push-clause-err : goal.returns-in_err-push-clause-err
returns-in_err-push-clause-err g c =
    let rest = all_accepted_text (labels_of c.args.naming.now) c.args.ids.now ++ all_paid_text c.args.engine.now.profile (labels_of c.args.naming.now) c.args.engine.now.kept c.args.locks.now in
    on_err c.from_residual.result _
    (start_stops c.new-page.result c.as_slice.result.now (counts_text c.args.engine.now.kept) rest c.new-page.ensures (c.as_slice.ensures.bytes ∙ c.counts_line-line.ensures) c.in_err-push.ensures.err)

pub returns-in_err-push_all_accepted-clause-err : goal.returns-in_err-push_all_accepted-clause-err
returns-in_err-push_all_accepted-clause-err g c =
    let accepted = all_accepted_text (labels_of c.args.naming.now) c.args.ids.now in
    let paid = all_paid_text c.args.engine.now.profile (labels_of c.args.naming.now) c.args.engine.now.kept c.args.locks.now in
    let w = start_goes c.new-page.result c.as_slice.result.now (counts_text c.args.engine.now.kept) (accepted ++ paid) c.new-page.ensures (c.as_slice.ensures.bytes ∙ c.counts_line-line.ensures) c.in_ok-push.ensures.ok in
    on_err c.from_residual-in_err-push_all_accepted.result _
    (stops_there c.push.new.self (accepted ++ paid) accepted paid refl w c.in_err-push_all_accepted.ensures.err)

pub returns-in_err-push_all_paid-clause-err : goal.returns-in_err-push_all_paid-clause-err
returns-in_err-push_all_paid-clause-err g c =
    let accepted = all_accepted_text (labels_of c.args.naming.now) c.args.ids.now in
    let paid = all_paid_text c.args.engine.now.profile (labels_of c.args.naming.now) c.args.engine.now.kept c.args.locks.now in
    let w = start_goes c.new-page.result c.as_slice.result.now (counts_text c.args.engine.now.kept) (accepted ++ paid) c.new-page.ensures (c.as_slice.ensures.bytes ∙ c.counts_line-line.ensures) c.in_ok-push.ensures.ok in
    let v = goes_on c.push.new.self (accepted ++ paid) accepted paid refl w c.in_ok-push_all_accepted.ensures.ok in
    on_err c.from_residual-in_err-push_all_paid.result _ (front_then v c.in_err-push_all_paid.ensures.err)

pub returns-clause-ok : goal.returns-clause-ok
returns-clause-ok g c =
    let taken = g.K.Sink.taken in
    let counts = counts_text c.args.engine.now.kept in
    let accepted = all_accepted_text (labels_of c.args.naming.now) c.args.ids.now in
    let paid = all_paid_text c.args.engine.now.profile (labels_of c.args.naming.now) c.args.engine.now.kept c.args.locks.now in
    let w = start_goes c.new-page.result c.as_slice.result.now counts (accepted ++ paid) c.new-page.ensures (c.as_slice.ensures.bytes ∙ c.counts_line-line.ensures) c.in_ok-push.ensures.ok in
    let v = goes_on c.push.new.self (accepted ++ paid) accepted paid refl w c.in_ok-push_all_accepted.ensures.ok in
    all_goes (taken c.args.sink.now) (taken c.push_all_paid.new.sink) (taken c.flush.new.sink) (counts ++ (accepted ++ paid)) c.push_all_paid.new.page c.flush.result
    (wrote_then v c.in_ok-push_all_paid.ensures.ok) c.flush.ensures.ok

pub returns-clause-err : goal.returns-clause-err
returns-clause-err g c =
    let taken = g.K.Sink.taken in
    let counts = counts_text c.args.engine.now.kept in
    let accepted = all_accepted_text (labels_of c.args.naming.now) c.args.ids.now in
    let paid = all_paid_text c.args.engine.now.profile (labels_of c.args.naming.now) c.args.engine.now.kept c.args.locks.now in
    let w = start_goes c.new-page.result c.as_slice.result.now counts (accepted ++ paid) c.new-page.ensures (c.as_slice.ensures.bytes ∙ c.counts_line-line.ensures) c.in_ok-push.ensures.ok in
    let v = goes_on c.push.new.self (accepted ++ paid) accepted paid refl w c.in_ok-push_all_accepted.ensures.ok in
    rest_stops (taken c.args.sink.now) (taken c.push_all_paid.new.sink) (taken c.flush.new.sink) (counts ++ (accepted ++ paid)) c.push_all_paid.new.page c.flush.result
    (wrote_then v c.in_ok-push_all_paid.ensures.ok) c.flush.ensures.err
