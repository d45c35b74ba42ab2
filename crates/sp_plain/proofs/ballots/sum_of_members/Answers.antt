use Rattle.std.proofs.Common.{◌≡◌, ◌∙◌, ap, arith, filter, length, slice_index_or, pos, ℕ, sym}
use Rattle.std.specs.List.{range_with_len}
use Rattle.std.proofs.lemmas.Int.{ints}
use Rattle.sp_model.specs.Graph.{has}
use Rattle.sp_model.specs.Votes.{total}
use Rattle.sp_plain.proofs.Ranges.{total_more_no, total_more_yes, total_row}
use Rattle.sp_plain.proofs.ballots.sum_of_members.Goals as goal
use Rattle.sp_plain.proofs.ballots.sum_of_members.Goals.{then-test, else-test}

pub loop-z-preserved : goal.loop-z-preserved
loop-z-preserved c =
    let f = λ (z : ℕ). slice_index_or c.args.votes.now z (pos 0) in
    elim c.if-test.branch [
      | then-test w ↦ record {
        sum = omega (arith, ints, total_more_yes (has c.args.members.now) f c.loop-z.z (sym c.test.ensures.value ∙ w.if-test.true));
        high = omega (arith, ints);
        low = omega (arith, ints);
      }
      | else-test w ↦ record {
        sum = omega (arith, ints, total_more_no (has c.args.members.now) f c.loop-z.z (sym c.test.ensures.value ∙ w.if-test.false));
        high = omega (arith, ints);
        low = omega (arith, ints);
      }
    ]

pub returns : goal.returns
returns c =
    let f = λ (z : ℕ). slice_index_or c.args.votes.now z (pos 0) in
    let all : c.loop-z.z ≡ length c.args.votes.now = omega arith in
    c.loop-z.invariant.sum ∙ ap (λ (n : ℕ). total f (filter (has c.args.members.now) (range_with_len 0 n))) all
    ∙ total_row f c.args.members.now (length c.args.votes.now) c.count-count.ensures.row c.requires.small c.requires.below
