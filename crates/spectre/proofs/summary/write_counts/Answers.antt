use Rattle.std.proofs.Common.{◌++◌, List, ℕ, ap₂, rules, subst}
use Rattle.sp_io.specs.Whole.{AppendsFront, Wrote}
use Rattle.sp_io.proofs.Pages.{all_goes, front_then, rest_stops, start_goes, start_stops, wrote_then}
use Rattle.sp_io.proofs.Stops.{on_err}
use Rattle.sp_report.specs.Lines.{accepted_count_text, balance_count_text, blocks_text}
use Rattle.spectre.specs.Summary.{counts_text, tally_text}
use Rattle.spectre.proofs.summary.write_counts.Goals as goal

pub returns-in_err-push_two-clause-err : goal.returns-in_err-push_two-clause-err
unfolding counts_text
returns-in_err-push_two-clause-err g c =
    let n = c.args.counts.now in
    let first = ap₂ (λ (x : List ℕ) (y : List ℕ). x ++ y) c.blocks_line-blocks.ensures c.tally_line-pairs.ensures in
    on_err c.from_residual.result _
    (start_stops c.new-page.result (c.blocks_line-blocks.result ++ c.tally_line-pairs.result) (blocks_text n.present n.waiting ++ tally_text n.pairs n.tally)
    (accepted_count_text n.accepted ++ balance_count_text n.paid) c.new-page.ensures first c.in_err-push_two.ensures.err)

pub returns-in_err-push_two-2-clause-err : goal.returns-in_err-push_two-2-clause-err
unfolding counts_text
returns-in_err-push_two-2-clause-err g c =
    let n = c.args.counts.now in
    let taken = g.K.Sink.taken in
    let first = ap₂ (λ (x : List ℕ) (y : List ℕ). x ++ y) c.blocks_line-blocks.ensures c.tally_line-pairs.ensures in
    let second = ap₂ (λ (x : List ℕ) (y : List ℕ). x ++ y) c.accepted_count_line-accepted.ensures c.balance_count_line-paid.ensures in
    on_err c.from_residual-in_err-push_two-2.result _
    (front_then
    (start_goes c.new-page.result (c.blocks_line-blocks.result ++ c.tally_line-pairs.result) (blocks_text n.present n.waiting ++ tally_text n.pairs n.tally)
    (accepted_count_text n.accepted ++ balance_count_text n.paid) c.new-page.ensures first c.in_ok-push_two.ensures.ok)
    (subst (λ (t : List ℕ). AppendsFront (taken c.push_two.new.sink) (taken c.push_two-2.new.sink) (c.push_two.new.page ++ t)) second c.in_err-push_two-2.ensures.err))

pub returns : goal.returns
unfolding counts_text
returns g c =
    let n = c.args.counts.now in
    let taken = g.K.Sink.taken in
    let first = ap₂ (λ (x : List ℕ) (y : List ℕ). x ++ y) c.blocks_line-blocks.ensures c.tally_line-pairs.ensures in
    let second = ap₂ (λ (x : List ℕ) (y : List ℕ). x ++ y) c.accepted_count_line-accepted.ensures c.balance_count_line-paid.ensures in
    let all = wrote_then
    (start_goes c.new-page.result (c.blocks_line-blocks.result ++ c.tally_line-pairs.result) (blocks_text n.present n.waiting ++ tally_text n.pairs n.tally)
    (accepted_count_text n.accepted ++ balance_count_text n.paid) c.new-page.ensures first c.in_ok-push_two.ensures.ok)
    (subst (λ (t : List ℕ). Wrote (taken c.push_two.new.sink) (taken c.push_two-2.new.sink) (c.push_two.new.page ++ t) c.push_two-2.new.page) second c.in_ok-push_two-2.ensures.ok) in
    record {
      ok = all_goes (taken c.args.sink.now) (taken c.push_two-2.new.sink) (taken c.flush.new.sink) (counts_text n) c.push_two-2.new.page c.flush.result all c.flush.ensures.ok;
      err = rest_stops (taken c.args.sink.now) (taken c.push_two-2.new.sink) (taken c.flush.new.sink) (counts_text n) c.push_two-2.new.page c.flush.result all c.flush.ensures.err;
      cause = search rules;
    }
