use Rattle.std.proofs.Common.{◌+◌, cond, get_or, refl, sym, ap, subst, ◌∙◌, arith}
use Rattle.sp_model.specs.declared.word.Word.{Word}
use Rattle.spectre.specs.Numbering.{number_word}
use Rattle.spectre.specs.Summary.{AreUpTo, is_after, is_before, is_tie}
use Rattle.spectre.proofs.Tallies.{next_other, no_other, one_more}
use Rattle.spectre.proofs.counting.count_votes.Goals as goal

pub other-preserved : goal.other-preserved
other-preserved c =
    let tally = c.other.tally in
    let next = c.with_word-tally.ensures in
    let said = c.word_of.ensures in
    let other = get_or c.args.others.now c.other.other-index 0 in
    record {
      counted = next_other (number_word c.args.engine.now.profile c.args.engine.now.kept) c.args.first c.args.others.now c.other.other-index other tally c.with_word-tally.result c.other-test.true refl
          (next.before ∙ ap (λ (w : Word). cond (is_before w) (tally.before + 1) tally.before) said)
          (next.after ∙ ap (λ (w : Word). cond (is_after w) (tally.after + 1) tally.after) said)
          (next.tie ∙ ap (λ (w : Word). cond (is_tie w) (tally.tie + 1) tally.tie) said)
          ∙ c.other.invariant.counted;
      bound = subst (AreUpTo c.with_word-tally.result) (omega arith) (one_more (1048576 + c.other.other-index) tally c.with_word-tally.result (is_before c.word_of.result) (is_after c.word_of.result) (is_tie c.word_of.result) c.other.invariant.bound next.before next.after next.tie);
    }

pub returns : goal.returns
returns c =
    record {
      tally = sym (no_other (number_word c.args.engine.now.profile c.args.engine.now.kept) c.args.first c.args.others.now c.other.other-index c.other.tally c.other-test.false) ∙ c.other.invariant.counted;
    }
