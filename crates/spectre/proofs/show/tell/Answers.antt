use Rattle.std.proofs.Common.{◌∙◌, List, ℕ, subst}
use Rattle.std.specs.Io.KnownBytes.{Appends}
use Rattle.sp_io.specs.Whole.{AppendsFront}
use Rattle.sp_io.proofs.Stops.{on_err}
use Rattle.sp_io.proofs.Writing.{appends_then, wrote_none, wrote_stops}
use Rattle.sp_names.specs.Labels.{no_labels}
use Rattle.sp_report.specs.Texts.{report_text}
use Rattle.spectre.specs.Journals.{recovered_text}
use Rattle.spectre.proofs.Shown.{front_then}
use Rattle.spectre.proofs.show.tell.Goals as goal

pub returns-in_err-write_whole-clause-err : goal.returns-in_err-write_whole-clause-err
returns-in_err-write_whole-clause-err g c =
    let taken = g.K.Sink.taken in
    let line = c.as_slice.ensures.bytes ∙ c.recovered_line.ensures in
    on_err c.from_residual.result _
    (wrote_stops (recovered_text c.args.count) (report_text c.args.engine.now.profile no_labels c.args.engine.now.kept) (wrote_none (taken c.args.sink.now) _)
    (subst (λ (t : List ℕ). AppendsFront (taken c.args.sink.now) (taken c.write_whole.new.sink) t) line c.in_err-write_whole.ensures.err))

pub returns-in-Ok-clause-ok : goal.returns-in-Ok-clause-ok
returns-in-Ok-clause-ok g c =
    let taken = g.K.Sink.taken in
    let line = c.as_slice.ensures.bytes ∙ c.recovered_line.ensures in
    let first = subst (λ (t : List ℕ). Appends (taken c.args.sink.now) (taken c.write_whole.new.sink) t) line c.in_ok-write_whole.ensures.ok in
    appends_then (taken c.args.sink.now) (taken c.write_whole.new.sink) (taken c.write_text.new.sink) (recovered_text c.args.count) (report_text c.args.engine.now.profile no_labels c.args.engine.now.kept) first c.in-Ok.ensures.ok

pub returns-in-Err-WriteFault-clause-err : goal.returns-in-Err-WriteFault-clause-err
returns-in-Err-WriteFault-clause-err g c =
    let taken = g.K.Sink.taken in
    let line = c.as_slice.ensures.bytes ∙ c.recovered_line.ensures in
    let first = subst (λ (t : List ℕ). Appends (taken c.args.sink.now) (taken c.write_whole.new.sink) t) line c.in_ok-write_whole.ensures.ok in
    front_then (taken c.args.sink.now) (taken c.write_whole.new.sink) (taken c.write_text.new.sink) (recovered_text c.args.count) (report_text c.args.engine.now.profile no_labels c.args.engine.now.kept) first c.in-Err-WriteFault.ensures.err

pub returns-in-Err-Memory-clause-err : goal.returns-in-Err-Memory-clause-err
returns-in-Err-Memory-clause-err g c =
    let taken = g.K.Sink.taken in
    let line = c.as_slice.ensures.bytes ∙ c.recovered_line.ensures in
    let first = subst (λ (t : List ℕ). Appends (taken c.args.sink.now) (taken c.write_whole.new.sink) t) line c.in_ok-write_whole.ensures.ok in
    front_then (taken c.args.sink.now) (taken c.write_whole.new.sink) (taken c.write_text.new.sink) (recovered_text c.args.count) (report_text c.args.engine.now.profile no_labels c.args.engine.now.kept) first c.in-Err-Memory.ensures.err
