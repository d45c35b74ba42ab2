use Rattle.std.proofs.Common.{◌++◌, length, ap, ◌∙◌}
use Rattle.sp_io.proofs.Pages.{all_goes, front_then, rest_stops, start_goes, start_stops, wrote_then}
use Rattle.sp_io.proofs.Stops.{on_err}
use Rattle.sp_report.specs.Naming.{labels_of}
use Rattle.sp_report.specs.Lines.{pair_count_text}
use Rattle.sp_report.specs.Texts.{pairs_of, pairs_of_ids_text}
use Rattle.sp_report.proofs.PairTexts.{all_votes}
use Rattle.sp_report.proofs.pairs.write_pairs.Goals as goal

pub returns-in_err-push-clause-err : goal.returns-in_err-push-clause-err
unfolding pairs_of_ids_text
returns-in_err-push-clause-err g c =
    let head = pair_count_text (length (pairs_of c.args.ids.now)) in
    let rest = all_votes c.args.engine.now.profile (labels_of c.args.naming.now) c.args.engine.now.kept c.args.ids.now in
    let e = c.as_slice.ensures.bytes ∙ c.pair_count_line-line.ensures ∙ ap pair_count_text c.pair_count.ensures in
    on_err c.from_residual.result _ (start_stops c.new-page.result c.as_slice.result.now head rest c.new-page.ensures e c.in_err-push.ensures.err)

pub returns-in_err-push_pairs-clause-err : goal.returns-in_err-push_pairs-clause-err
unfolding pairs_of_ids_text
returns-in_err-push_pairs-clause-err g c =
    let head = pair_count_text (length (pairs_of c.args.ids.now)) in
    let rest = all_votes c.args.engine.now.profile (labels_of c.args.naming.now) c.args.engine.now.kept c.args.ids.now in
    let e = c.as_slice.ensures.bytes ∙ c.pair_count_line-line.ensures ∙ ap pair_count_text c.pair_count.ensures in
    let w = start_goes c.new-page.result c.as_slice.result.now head rest c.new-page.ensures e c.in_ok-push.ensures.ok in
    on_err c.from_residual-in_err-push_pairs.result _ (front_then w c.in_err-push_pairs.ensures.err)

pub returns-clause-ok : goal.returns-clause-ok
unfolding pairs_of_ids_text
returns-clause-ok g c =
    let taken = g.K.Sink.taken in
    let head = pair_count_text (length (pairs_of c.args.ids.now)) in
    let rest = all_votes c.args.engine.now.profile (labels_of c.args.naming.now) c.args.engine.now.kept c.args.ids.now in
    let e = c.as_slice.ensures.bytes ∙ c.pair_count_line-line.ensures ∙ ap pair_count_text c.pair_count.ensures in
    let w = start_goes c.new-page.result c.as_slice.result.now head rest c.new-page.ensures e c.in_ok-push.ensures.ok in
    all_goes (taken c.args.sink.now) (taken c.push_pairs.new.sink) (taken c.flush.new.sink) (head ++ rest) c.push_pairs.new.page c.flush.result
    (wrote_then w c.in_ok-push_pairs.ensures.ok) c.flush.ensures.ok

pub returns-clause-err : goal.returns-clause-err
unfolding pairs_of_ids_text
returns-clause-err g c =
    let taken = g.K.Sink.taken in
    let head = pair_count_text (length (pairs_of c.args.ids.now)) in
    let rest = all_votes c.args.engine.now.profile (labels_of c.args.naming.now) c.args.engine.now.kept c.args.ids.now in
    let e = c.as_slice.ensures.bytes ∙ c.pair_count_line-line.ensures ∙ ap pair_count_text c.pair_count.ensures in
    let w = start_goes c.new-page.result c.as_slice.result.now head rest c.new-page.ensures e c.in_ok-push.ensures.ok in
    rest_stops (taken c.args.sink.now) (taken c.push_pairs.new.sink) (taken c.flush.new.sink) (head ++ rest) c.push_pairs.new.page c.flush.result
    (wrote_then w c.in_ok-push_pairs.ensures.ok) c.flush.ensures.err
