use Rattle.std.proofs.Common.{List, Ok, subst, sym, ℕ}
use Rattle.std.specs.Io.KnownBytes.{Appends}
use Rattle.sp_io.specs.Whole.{AppendsFront}
use Rattle.sp_io.proofs.Writing.{wrote_none}
use Rattle.spectre.specs.CertifyEnds.{WritesCertified}
use Rattle.spectre.specs.Certifies.{Certified}
use Rattle.spectre.proofs.CertifiedFeeds.{line_not_done, none_told, not_err, over_made, over_none, stands_so}
use Rattle.spectre.proofs.certify.tell_certified.Goals as goal

pub returns-in-Ok-clause-by : goal.returns-in-Ok-clause-by
returns-in-Ok-clause-by g c =
    subst (λ (r : Certified). WritesCertified r (g.K.Sink.taken c.args.sink.now) (g.K.Sink.taken c.write_certified.new.sink) c.write_certified.result)
    (sym (over_made c.args.x.now c.args.y.now _ _ _ c.in-Ok.ensures.made (λ none. not_err (c.in-Ok.ensures.no_pair none)))) c.write_certified.ensures.by

pub returns-in-Ok-clause-stands : goal.returns-in-Ok-clause-stands
returns-in-Ok-clause-stands g c = λ s. stands_so c.args.x.now c.args.y.now (g.K.Sink.taken c.args.sink.now) (g.K.Sink.taken c.write_certified.new.sink) _ c.in-Ok.ensures.x c.in-Ok.ensures.y c.in-Ok.ensures.stands c.in-Ok.ensures.read
    (subst (WritesCertified (Ok _) (g.K.Sink.taken c.args.sink.now) (g.K.Sink.taken c.write_certified.new.sink)) s c.write_certified.ensures.by).0

pub returns-in-Err-NoPair-clause-by : goal.returns-in-Err-NoPair-clause-by
returns-in-Err-NoPair-clause-by g c =
    let a = g.K.Sink.taken c.args.sink.now in
    let b = g.K.Sink.taken c.end_with.new.sink in
    none_told _ a b c.end_with.result (over_none c.args.x.now c.args.y.now _ _ (c.in-Err-NoPair.ensures.pair c.in-Err-NoPair.field-0-is)) c.end_with.ensures.status
    (λ h. subst (λ (t : List ℕ). Appends a b t) c.no_pair_line.ensures (c.end_with.ensures.text h))
    (subst (λ (t : List ℕ). AppendsFront a b t) c.no_pair_line.ensures c.end_with.ensures.front)

pub returns-in-Err-NoPair-clause-stands : goal.returns-in-Err-NoPair-clause-stands
returns-in-Err-NoPair-clause-stands g c = λ s. absurd (line_not_done c.end_with.result c.end_with.ensures.status s)

pub returns-in-Err-Memory-clause-by : goal.returns-in-Err-Memory-clause-by
returns-in-Err-Memory-clause-by g c = (_, wrote_none (g.K.Sink.taken c.args.sink.now) _)
