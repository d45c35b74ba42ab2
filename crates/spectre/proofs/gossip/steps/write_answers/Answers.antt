use Rattle.std.proofs.Common.{◌+◌, ◌∙◌, List, ℕ, drop, subst, arith}
use Rattle.std.specs.Prelude.{flat_map}
use Rattle.sp_io.specs.Whole.{Wrote}
use Rattle.sp_io.proofs.Stops.{on_err}
use Rattle.sp_io.proofs.Writing.{wrote_all, wrote_more, wrote_stops}
use Rattle.sp_report.specs.Naming.{labels_of}
use Rattle.spectre.specs.Gossips.{answer_at_text}
use Rattle.spectre.proofs.Gossiping.{last_text, next_text}
use Rattle.spectre.proofs.gossip.steps.write_answers.Goals as goal

pub returns-in_err-write_answer-clause-err : goal.returns-in_err-write_answer-clause-err
returns-in_err-write_answer-clause-err g c =
    let answers = c.args.answers.now in
    let text = answer_at_text (labels_of c.args.naming.now) c.args.node in
    let i = c.each.place in
    let answer = c.index-answers-place.result in
    let a = g.K.Sink.taken c.args.sink.now in
    let b = g.K.Sink.taken c.each.sink in
    let e = next_text text answers i answer (omega (arith, c.each-test.true)) c.index-answers-place.is in
    let w = subst (λ (t : List ℕ). Wrote a b (flat_map text answers) t) e c.each.invariant.text in
    on_err c.from_residual.result _ (wrote_stops (text answer) (flat_map text (drop (i + 1) answers)) w c.in_err-write_answer.ensures.err)

pub each-preserved : goal.each-preserved
each-preserved g c =
    let answers = c.args.answers.now in
    let text = answer_at_text (labels_of c.args.naming.now) c.args.node in
    let i = c.each.place in
    let answer = c.index-answers-place.result in
    let a = g.K.Sink.taken c.args.sink.now in
    let b = g.K.Sink.taken c.each.sink in
    let e = next_text text answers i answer (omega (arith, c.each-test.true)) c.index-answers-place.is in
    let w = subst (λ (t : List ℕ). Wrote a b (flat_map text answers) t) e c.each.invariant.text in
    record {
      text = wrote_more (text answer) (flat_map text (drop (i + 1) answers)) w c.in_ok-write_answer.ensures.ok;
      quiet = c.in_ok-write_answer.ensures.cause.quiet ∙ c.each.invariant.quiet;
    }

pub returns-clause-ok : goal.returns-clause-ok
returns-clause-ok g c =
    let answers = c.args.answers.now in
    let text = answer_at_text (labels_of c.args.naming.now) c.args.node in
    let a = g.K.Sink.taken c.args.sink.now in
    let b = g.K.Sink.taken c.each.sink in
    wrote_all (subst (λ (t : List ℕ). Wrote a b (flat_map text answers) t) (last_text text answers c.each.place (omega (arith, c.each-test.false))) c.each.invariant.text)
