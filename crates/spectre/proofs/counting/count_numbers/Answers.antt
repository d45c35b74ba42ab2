use Rattle.std.proofs.Common.{◌+◌, ◌≤◌, get_or, length, length-drop, refl, sym, ap, ◌∙◌, arith}
use Rattle.spectre.specs.Numbering.{number_word}
use Rattle.spectre.proofs.Tallies.{added_up_to, next_block, no_block}
use Rattle.spectre.proofs.counting.count_numbers.Goals as goal

pub place-preserved : goal.place-preserved
place-preserved c =
    let said = number_word c.args.engine.now.profile c.args.engine.now.kept in
    let numbers = c.args.numbers.now in
    let i = c.place.place in
    let x = get_or numbers i 0 in
    let others = c.split_at.result.1.now in
    let few : length others ≤ 512 = omega (arith, ap length c.split_at.ensures.back, length-drop (i + 1) numbers, c.requires.few) in
    record {
      counted = next_block said numbers i x others c.place.tally c.count_votes-tally.result c.place-test.true refl c.split_at.ensures.back c.count_votes-tally.ensures.tally
          ∙ c.place.invariant.counted;
      bound = added_up_to said x others i c.place.tally c.count_votes-tally.result few c.place.invariant.bound c.count_votes-tally.ensures.tally;
    }

pub returns : goal.returns
returns c =
    sym (no_block (number_word c.args.engine.now.profile c.args.engine.now.kept) c.args.numbers.now c.place.place c.place.tally c.place-test.false)
    ∙ c.place.invariant.counted
