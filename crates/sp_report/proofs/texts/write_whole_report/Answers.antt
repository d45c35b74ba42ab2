use Rattle.std.proofs.Common.{ℕ, List, ap₂, ◌++◌, ◌∙◌, subst}
use Rattle.sp_io.specs.Whole.{AppendsFront}
use Rattle.sp_io.proofs.Stops.{on_err}
use Rattle.sp_report.specs.Naming.{labels_of}
use Rattle.sp_report.specs.Texts.{all_accepted_text, all_paid_text, counts_text, report_text}
use Rattle.sp_report.proofs.texts.write_whole_report.Goals as goal

pub returns-in_err-write_report-clause-err : goal.returns-in_err-write_report-clause-err
unfolding report_text
returns-in_err-write_report-clause-err g c =
    let taken = g.K.Sink.taken in
    let profile = c.args.engine.now.profile in
    let kept = c.args.engine.now.kept in
    let ids = c.as_slice.ensures.value ∙ c.in_ok-ids.ensures.order in
    let locks = c.as_slice-2.ensures.value ∙ c.in_ok-locks.ensures.order in
    on_err c.from_residual-in_err-write_report.result _
    (subst (λ (t : List ℕ). AppendsFront (taken c.args.sink.now) (taken c.write_report.new.sink) (counts_text kept ++ t))
    (ap₂ (λ (xs ys : List ℕ). all_accepted_text (labels_of c.args.naming.now) xs ++ all_paid_text profile (labels_of c.args.naming.now) kept ys) ids locks) c.in_err-write_report.ensures.err)
