use Rattle.std.proofs.Common.{List, ℕ, ◌-◌, ◌++◌, ◌∙◌, OnErr, OnOk, ap, subst}
use Rattle.std.specs.Io.KnownBytes.{Appends}
use Rattle.sp_io.specs.Whole.{AppendsFront}
use Rattle.sp_model.specs.declared.profile.Profile.{Profile}
use Rattle.sp_names.specs.Labels.{no_labels}
use Rattle.sp_report.specs.Texts.{report_text}
use Rattle.spectre.specs.Journals.{recovered_text}
use Rattle.spectre.proofs.Shown.{shown_is}
use Rattle.spectre.proofs.show.tell_opened.Goals as goal

pub returns-clause-ok : goal.returns-clause-ok
returns-clause-ok g c =
    let taken = g.K.Sink.taken in
    let e = c.in_ok-engine.ensures in
    let is = ap (λ (p : Profile). recovered_text (c.kept_count-count.result - 1) ++ report_text p no_labels c.in_ok-engine.engine.kept) e.engine.profile_is ∙ shown_is c.args.opened (c.kept_count-count.result - 1) c.in_ok-engine.engine.kept (ap (λ (k : ℕ). k - 1) c.kept_count-count.ensures.count) e.engine.kept_are e.sent e.spelled in
    subst (λ (t : List ℕ). OnOk c.tell.result (Appends (taken c.args.sink.now) (taken c.tell.new.sink) t)) is c.tell.ensures.ok

pub returns-clause-err : goal.returns-clause-err
returns-clause-err g c =
    let taken = g.K.Sink.taken in
    let e = c.in_ok-engine.ensures in
    let is = ap (λ (p : Profile). recovered_text (c.kept_count-count.result - 1) ++ report_text p no_labels c.in_ok-engine.engine.kept) e.engine.profile_is ∙ shown_is c.args.opened (c.kept_count-count.result - 1) c.in_ok-engine.engine.kept (ap (λ (k : ℕ). k - 1) c.kept_count-count.ensures.count) e.engine.kept_are e.sent e.spelled in
    subst (λ (t : List ℕ). OnErr c.tell.result (AppendsFront (taken c.args.sink.now) (taken c.tell.new.sink) t)) is c.tell.ensures.err
