use Rattle.std.proofs.Common.{List, subst, sym, ℕ}
use Rattle.std.specs.Io.KnownBytes.{Appends}
use Rattle.sp_io.specs.Whole.{AppendsFront}
use Rattle.sp_io.proofs.Writing.{wrote_none}
use Rattle.spectre.specs.SpendEnds.{WritesSpend}
use Rattle.spectre.specs.Spends.{spend_over, Spent}
use Rattle.spectre.proofs.SpentFeeds.{large_told, poor_told}
use Rattle.spectre.proofs.spend.tell_spend.Goals as goal

pub returns-in-Ok-clause-by : goal.returns-in-Ok-clause-by
unfolding spend_over
returns-in-Ok-clause-by g c = subst (λ (s : Spent). WritesSpend s (g.K.Sink.taken c.args.sink.now) (g.K.Sink.taken c.write_spend.new.sink) c.write_spend.result) (sym c.in-Ok.ensures.value) c.write_spend.ensures.by

pub returns-in-Err-Poor-clause-by : goal.returns-in-Err-Poor-clause-by
unfolding spend_over
returns-in-Err-Poor-clause-by g c =
    let a = g.K.Sink.taken c.args.sink.now in
    let b = g.K.Sink.taken c.end_with.new.sink in
    let line = rw c.in-Err-Poor.field-0-is at c.poor_line.ensures in
    poor_told _ c.in-Err-Poor.reach a b c.end_with.result (rw c.in-Err-Poor.field-0-is at c.in-Err-Poor.ensures.value) c.end_with.ensures.status
    (λ h. subst (λ (t : List ℕ). Appends a b t) line (c.end_with.ensures.text h))
    (subst (λ (t : List ℕ). AppendsFront a b t) line c.end_with.ensures.front)

pub returns-in-Err-Large-clause-by : goal.returns-in-Err-Large-clause-by
unfolding spend_over
returns-in-Err-Large-clause-by g c =
    let a = g.K.Sink.taken c.args.sink.now in
    let b = g.K.Sink.taken c.end_with-in-Err-Large.new.sink in
    let line = rw c.in-Err-Large.field-0-is at c.large_line.ensures in
    large_told _ c.in-Err-Large.total a b c.end_with-in-Err-Large.result (rw c.in-Err-Large.field-0-is at c.in-Err-Large.ensures.value) c.end_with-in-Err-Large.ensures.status
    (λ h. subst (λ (t : List ℕ). Appends a b t) line (c.end_with-in-Err-Large.ensures.text h))
    (subst (λ (t : List ℕ). AppendsFront a b t) line c.end_with-in-Err-Large.ensures.front)

pub returns-in-Err-Memory-clause-by : goal.returns-in-Err-Memory-clause-by
returns-in-Err-Memory-clause-by g c = (_, wrote_none (g.K.Sink.taken c.args.sink.now) _)
