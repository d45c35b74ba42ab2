use Rattle.std.proofs.Common.{◌++◌, List, ℕ, subst, ◌∙◌}
use Rattle.std.specs.Io.KnownBytes.{Appends}
use Rattle.sp_io.specs.Whole.{AppendsFront}
use Rattle.sp_io.proofs.Pages.{all_goes, rest_stops}
use Rattle.sp_io.proofs.Stops.{on_err}
use Rattle.sp_report.specs.Lines.{answer_text}
use Rattle.sp_report.specs.Naming.{labels_of}
use Rattle.spectre.specs.Gossips.{at_text}
use Rattle.spectre.proofs.Sending.{first_goes, first_stops}
use Rattle.spectre.proofs.gossip.steps.write_answer.Goals as goal

pub returns-in_err-write_whole-clause-err : goal.returns-in_err-write_whole-clause-err
returns-in_err-write_whole-clause-err g c =
    let head = at_text c.args.node 32 in
    let rest = answer_text (labels_of c.args.naming.now) c.args.answer.now in
    let a = g.K.Sink.taken c.args.sink.now in
    let b = g.K.Sink.taken c.write_whole.new.sink in
    on_err c.from_residual.result _ (first_stops a b head rest (subst (λ (t : List ℕ). AppendsFront a b t) (c.as_slice.ensures.bytes ∙ c.at_line-at.ensures) c.in_err-write_whole.ensures.err))

pub returns-clause-ok : goal.returns-clause-ok
returns-clause-ok g c =
    let head = at_text c.args.node 32 in
    let rest = answer_text (labels_of c.args.naming.now) c.args.answer.now in
    let a = g.K.Sink.taken c.args.sink.now in
    let b = g.K.Sink.taken c.write_whole.new.sink in
    let w = first_goes a b head rest (subst (λ (t : List ℕ). Appends a b t) (c.as_slice.ensures.bytes ∙ c.at_line-at.ensures) c.in_ok-write_whole.ensures.ok) in
    all_goes a b (g.K.Sink.taken c.answer_line.new.sink) (head ++ rest) rest c.answer_line.result w c.answer_line.ensures.ok

pub returns-clause-err : goal.returns-clause-err
returns-clause-err g c =
    let head = at_text c.args.node 32 in
    let rest = answer_text (labels_of c.args.naming.now) c.args.answer.now in
    let a = g.K.Sink.taken c.args.sink.now in
    let b = g.K.Sink.taken c.write_whole.new.sink in
    let w = first_goes a b head rest (subst (λ (t : List ℕ). Appends a b t) (c.as_slice.ensures.bytes ∙ c.at_line-at.ensures) c.in_ok-write_whole.ensures.ok) in
    rest_stops a b (g.K.Sink.taken c.answer_line.new.sink) (head ++ rest) rest c.answer_line.result w c.answer_line.ensures.err
