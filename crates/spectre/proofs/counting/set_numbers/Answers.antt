use Rattle.std.proofs.Common.{◌∙◌}
use Rattle.std.proofs.lemmas.List.{length-set}
use Rattle.spectre.proofs.SaidByNumber.{all_set, next_set}
use Rattle.spectre.proofs.counting.set_numbers.Goals as goal

pub place-preserved : goal.place-preserved
place-preserved c =
    let numbers = c.place.numbers in
    let number = c.number_of.result in
    record {
      long = length-set numbers c.place.place number ∙ c.place.invariant.long;
      set = next_set c.args.engine.now.kept c.args.ids.now numbers c.place.place c.index-ids-place.result number c.place-test.true c.place.invariant.long c.index-ids-place.is c.number_of.ensures c.place.invariant.set;
    }

pub returns : goal.returns
returns c =
    all_set c.args.engine.now.kept c.args.ids.now c.place.numbers c.place.place c.place-test.false c.place.invariant.long c.place.invariant.set
