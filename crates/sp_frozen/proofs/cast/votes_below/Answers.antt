use Rattle.std.proofs.Common.{◌≡◌, ◌∙◌, [], ap, sym}
use Rattle.sp_bits.specs.Places.{difference, members_below}
use Rattle.sp_frozen.proofs.Passing.{none_apart}
use Rattle.sp_frozen.proofs.cast.votes_below.Goals as goal

pub returns-clause-lower : goal.returns-clause-lower
returns-clause-lower c = λ x none less apart.
    let empty : members_below c.without.new.self c.args.y ≡ [] = c.highest_below.ensures.none.0 (sym c.is_some.ensures ∙ none) in
    none_apart c.args.dag.now c.args.past.now c.without.new.self x c.args.y c.len-blocks.ensures.numbered.order c.requires.present c.test.ensures.row
    (c.without.ensures ∙ ap (difference c.args.past.now) c.past.ensures) empty less apart
