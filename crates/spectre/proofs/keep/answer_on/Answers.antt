use Rattle.std.proofs.Common.{◌∙◌, ℕ, IfErr, Result, ap, inl, refl, subst, sym}
use Rattle.std.proofs.lemmas.Result.{err_from_is_err_and}
use Rattle.sp_feed.specs.Reads.{moment}
use Rattle.sp_io.specs.Causes.{Rose}
use Rattle.spectre.specs.Keeping.{bytes_of, KeepAnswers, of_answers}
use Rattle.spectre.specs.Replaying.{HasWriteCause}
use Rattle.spectre.specs.declared.replay.ReplayFault.{ReplayFault}
use Rattle.spectre.proofs.Keeping.{back_disk, back_write, tried}
use Rattle.spectre.proofs.Replies.{at_head}
use Rattle.spectre.proofs.keep.answer_on.Goals as goal

pub returns-in_err-node-clause-answers : goal.returns-in_err-node-clause-answers
returns-in_err-node-clause-answers g c =
    let p = err_from_is_err_and c.from_residual.result c.from_residual.ensures.1 in
    rw (p.1, p.2) (inl (c.in_err-node.ensures.err (g.K.Sink.taken c.args.sink.now)))

pub answer_rest-requires-clause-live : goal.answer_rest-requires-clause-live
answer_rest-requires-clause-live g c = c.in_ok-node.ensures.ok.live

pub answer_rest-requires-clause-stands : goal.answer_rest-requires-clause-stands
answer_rest-requires-clause-stands g c = c.in_ok-node.ensures.ok.stands

pub returns-clause-answers : goal.returns-clause-answers
returns-clause-answers g c =
    let now = g.D.Disk.now in
    let old = g.K.Sink.taken c.args.sink.now in
    let stored = c.args.stored in
    let begun = c.in_ok-node.ensures.ok in
    let start = moment (g.S.Source.left c.args.source.now) (g.S.Source.faults c.args.source.now) 0 in
    let node = c.in_ok-node.node in
    let rest = c.answer_rest.ensures.replies (bytes_of stored) start old (at_head {terms = node.terms} {kept = node.kept} (bytes_of stored) old refl begun.gives begun.spelled begun.terms (begun.sent)) in
    let after = moment (g.S.Source.left c.answer_rest.new.source) (g.S.Source.faults c.answer_rest.new.source) c.answer_rest.new.reader.taken in
    subst (λ r. KeepAnswers stored start after old (g.K.Sink.taken c.answer_rest.new.sink) (now c.args.disk.now) (now c.answer_rest.new.disk) r) (sym c.as_kept.ensures)
    (tried stored (now c.args.disk.now) (now c.begin.new.disk) (now c.answer_rest.new.disk) begun.head begun.gives c.in_ok-node.node.terms c.in_ok-node.node.kept c.in_ok-node.node.journal
    begun.same begun.terms begun.kept begun.has begun.leaves (λ f. sym (ap now (c.in_ok-node.ensures.found f))) c.in_ok-node.ensures.told c.answer_rest.ensures.told (g.met.D.Disk.is_moment c.begin.new.disk) (g.met.D.Disk.is_moment c.answer_rest.new.disk) rest)

pub returns-clause-write_cause : goal.returns-clause-write_cause
returns-clause-write_cause g c = λ is.
    let e = back_write c.answer_rest.result (sym c.as_kept.ensures ∙ is) in
    let cause = subst (λ (r : Result (Unit {0}) ReplayFault). IfErr r (HasWriteCause (g.K.Sink.faults c.args.sink.now) (g.K.Sink.faults c.answer_rest.new.sink))) e c.answer_rest.ensures.cause in cause

pub returns-clause-disk_cause : goal.returns-clause-disk_cause
returns-clause-disk_cause g c = λ is.
    subst (λ (n : ℕ). Rose n (g.D.Disk.now c.answer_rest.new.disk).faults) (c.in_ok-node.ensures.disk_quiet (λ h. cc))
    (c.answer_rest.ensures.disk_cause (back_disk c.answer_rest.result (sym c.as_kept.ensures ∙ is)))

pub returns-clause-read_quiet : goal.returns-clause-read_quiet
returns-clause-read_quiet g c = λ other. c.answer_rest.ensures.read_quiet (λ e. other (c.as_kept.ensures ∙ ap of_answers e)) ∙ c.in_ok-node.ensures.read_quiet (λ h. cc)

pub returns-clause-write_quiet : goal.returns-clause-write_quiet
returns-clause-write_quiet g c = λ other. c.answer_rest.ensures.write_quiet (λ e. other (c.as_kept.ensures ∙ ap of_answers e))

pub returns-clause-disk_quiet : goal.returns-clause-disk_quiet
returns-clause-disk_quiet g c = λ other. c.answer_rest.ensures.disk_quiet (λ e. other (c.as_kept.ensures ∙ ap of_answers e)) ∙ c.in_ok-node.ensures.disk_quiet (λ h. cc)
