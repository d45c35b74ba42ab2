use Rattle.std.proofs.Common.{◌+◌, ◌++◌, drop, subst, ◌∙◌}
use Rattle.sp_io.specs.Whole.{Wrote}
use Rattle.sp_io.proofs.Pages.{goes_on, stops_there}
use Rattle.sp_io.proofs.Stops.{on_err}
use Rattle.sp_report.specs.Naming.{labels_of}
use Rattle.sp_report.specs.Texts.{votes_text}
use Rattle.sp_report.proofs.PairTexts.{all_votes, no_votes, pairs_next}
use Rattle.sp_report.proofs.pairs.push_pairs.Goals as goal

pub returns-in_err-push_votes-clause-err : goal.returns-in_err-push_votes-clause-err
returns-in_err-push_votes-clause-err g c =
    let profile = c.args.engine.now.profile in
    let kept = c.args.engine.now.kept in
    let ids = c.args.ids.now in
    let i = c.place.place in
    let e = pairs_next profile (labels_of c.args.naming.now) kept ids i _ c.index-ids-place.result c.split_at.result.1.now c.place-test.true c.index-ids-place.is c.split_at.ensures.back in
    on_err c.from_residual.result _
    (stops_there c.place.page (all_votes profile (labels_of c.args.naming.now) kept (drop i ids)) (votes_text profile (labels_of c.args.naming.now) kept c.index-ids-place.result c.split_at.result.1.now) (all_votes profile (labels_of c.args.naming.now) kept (drop (i + 1) ids)) e c.place.invariant.text c.in_err-push_votes.ensures.err)

pub place-preserved : goal.place-preserved
place-preserved g c =
    let profile = c.args.engine.now.profile in
    let kept = c.args.engine.now.kept in
    let ids = c.args.ids.now in
    let i = c.place.place in
    let e = pairs_next profile (labels_of c.args.naming.now) kept ids i _ c.index-ids-place.result c.split_at.result.1.now c.place-test.true c.index-ids-place.is c.split_at.ensures.back in
    record {
      text = goes_on c.place.page (all_votes profile (labels_of c.args.naming.now) kept (drop i ids)) (votes_text profile (labels_of c.args.naming.now) kept c.index-ids-place.result c.split_at.result.1.now) (all_votes profile (labels_of c.args.naming.now) kept (drop (i + 1) ids)) e c.place.invariant.text c.in_ok-push_votes.ensures.ok;
      quiet = c.in_ok-push_votes.ensures.cause.quiet ∙ c.place.invariant.quiet;
    }

pub returns-clause-ok : goal.returns-clause-ok
returns-clause-ok g c =
    subst (λ t. Wrote (g.K.Sink.taken c.args.sink.now) (g.K.Sink.taken c.place.sink) (c.args.page.now ++ all_votes c.args.engine.now.profile (labels_of c.args.naming.now) c.args.engine.now.kept c.args.ids.now) t)
    (no_votes c.args.engine.now.profile (labels_of c.args.naming.now) c.args.engine.now.kept c.args.ids.now c.place.place c.place.page c.place-test.false) c.place.invariant.text
