use Rattle.std.proofs.Common.{sym, subst}
use Rattle.std.specs.Prelude.{OnErr}
use Rattle.sp_io.specs.Whole.{AppendsFront}
use Rattle.sp_journal.specs.Opening.{contents_in}
use Rattle.spectre.specs.Journals.{told_by}
use Rattle.spectre.specs.declared.shape.Shape.{Shape}
use Rattle.spectre.proofs.show.tell_of.Goals as goal

pub returns-in-Report-clause-err : goal.returns-in-Report-clause-err
returns-in-Report-clause-err g c =
    let taken = g.K.Sink.taken in
    subst (λ (s : Shape). OnErr c.tell_opened.result (AppendsFront (taken c.args.sink.now) (taken c.tell_opened.new.sink) (told_by s (contents_in c.args.opened)))) (sym c.in-Report.is) c.tell_opened.ensures.err

pub returns-in-Feed-clause-err : goal.returns-in-Feed-clause-err
returns-in-Feed-clause-err g c =
    let taken = g.K.Sink.taken in
    subst (λ (s : Shape). OnErr c.export_opened.result (AppendsFront (taken c.args.sink.now) (taken c.export_opened.new.sink) (told_by s (contents_in c.args.opened)))) (sym c.in-Feed.is) c.export_opened.ensures.err
