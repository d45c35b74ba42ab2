use Rattle.std.proofs.Common.{ap, subst, ◌∙◌}
use Rattle.sp_io.specs.Whole.{AppendsFront}
use Rattle.sp_io.proofs.Stops.{on_err}
use Rattle.spectre.specs.Summary.{counts_of, counts_text}
use Rattle.spectre.specs.declared.counts.Counts.{Counts}
use Rattle.spectre.proofs.drill.summarize.Goals as goal

pub returns-in_err-write_counts-clause-err : goal.returns-in_err-write_counts-clause-err
returns-in_err-write_counts-clause-err g c =
    let taken = g.K.Sink.taken in
    let is = c.count_all-counts.ensures ∙ ap (counts_of c.args.engine.now.profile c.args.engine.now.kept) (c.deref.ensures.value ∙ c.in_ok-ids.ensures.order) in
    on_err c.from_residual-in_err-write_counts.result _
    (subst (λ (n : Counts). AppendsFront (taken c.args.sink.now) (taken c.write_counts.new.sink) (counts_text n)) is c.in_err-write_counts.ensures.err)
