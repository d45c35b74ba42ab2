use Rattle.std.proofs.Common.{List, ℕ, subst, ◌∙◌}
use Rattle.sp_io.specs.Whole.{AppendsFront}
use Rattle.sp_io.proofs.Stops.{on_err}
use Rattle.spectre.proofs.made.write_made.Goals as goal

pub returns-in_err-write_whole-clause-err : goal.returns-in_err-write_whole-clause-err
returns-in_err-write_whole-clause-err g c =
    let taken = g.K.Sink.taken in
    on_err c.from_residual-in_err-write_whole.result _
    (subst (λ (t : List ℕ). AppendsFront (taken c.args.sink.now) (taken c.write_whole.new.sink) t) (c.deref.ensures.value ∙ c.in_ok-text.ensures.text) c.in_err-write_whole.ensures.err)
