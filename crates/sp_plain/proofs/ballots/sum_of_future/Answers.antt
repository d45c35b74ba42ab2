use Rattle.std.proofs.Common.{◌≡◌, ◌∙◌, ◌&&◌, ap, arith, filter, length, slice_index_or, pos, ℕ, sym}
use Rattle.std.specs.List.{range_with_len}
use Rattle.std.proofs.lemmas.Bool.{and_from, and_left, and_right}
use Rattle.std.proofs.lemmas.Int.{ints}
use Rattle.sp_dag.specs.Numbered.{graph_of}
use Rattle.sp_model.specs.Graph.{has, in_past}
use Rattle.sp_model.specs.Votes.{total}
use Rattle.sp_plain.proofs.Ranges.{total_future, total_more_no, total_more_yes}
use Rattle.sp_plain.proofs.ballots.sum_of_future.Goals as goal
use Rattle.sp_plain.proofs.ballots.sum_of_future.Goals.{then-test+then-in_past, else-test, else-test-via-then-test+else-in_past, else-test-via-else-test}

pub loop-w-preserved : goal.loop-w-preserved
loop-w-preserved c =
    let p = λ (v : ℕ). has c.args.members.now v && in_past (graph_of c.args.dag.now) c.args.z v in
    let f = λ (v : ℕ). slice_index_or c.args.votes.now v (pos 0) in
    elim c.if-test.branch [
      | then-test+then-in_past w ↦ record {
        sum = omega (arith, ints, total_more_yes p f c.loop-w.w (and_from _ _ (sym c.test.ensures.value ∙ w.if-test.true) (sym w.in_past.ensures ∙ w.if-in_past.true)));
        high = omega (arith, ints);
        low = omega (arith, ints);
      }
      | else-test w ↦ record {
        sum = elim w.else-test.branch [
          | else-test-via-then-test+else-in_past w' ↦ omega (arith, ints, total_more_no p f c.loop-w.w (and_right _ _ (sym w'.in_past.ensures ∙ w'.if-in_past.false)))
          | else-test-via-else-test w' ↦ omega (arith, ints, total_more_no p f c.loop-w.w (and_left _ _ (sym c.test.ensures.value ∙ w'.if-test.false)))
        ];
        high = omega (arith, ints);
        low = omega (arith, ints);
      }
    ]

pub returns : goal.returns
returns c =
    let q = λ (v : ℕ). in_past (graph_of c.args.dag.now) c.args.z v in
    let f = λ (v : ℕ). slice_index_or c.args.votes.now v (pos 0) in
    let all : c.loop-w.w ≡ length c.args.votes.now = omega arith in
    c.loop-w.invariant.sum ∙ ap (λ (n : ℕ). total f (filter (λ w. has c.args.members.now w && q w) (range_with_len 0 n))) all
    ∙ total_future f q c.args.members.now (length c.args.votes.now) c.count-count.ensures.row c.requires.small c.requires.below
