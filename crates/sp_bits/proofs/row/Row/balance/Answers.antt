use Rattle.std.proofs.Common.{◌≡◌, ◌∙◌, ap, length, arith}
use Rattle.std.proofs.lemmas.Int.{ints}
use Rattle.sp_bits.specs.Places.{places_where, meet}
use Rattle.sp_bits.specs.Words.{bit_in}
use Rattle.sp_bits.proofs.Sets.{meet-view}
use Rattle.sp_bits.proofs.row.Row.balance.Goals as goal

pub returns : goal.returns
unfolding places_where
returns c =
    let more : c.count_two-more.result.0 ≡ length (meet c.args.self.now c.args.plus.now) = c.count_two-more.ensures.plus
    ∙ ap length (meet-view (bit_in c.self.inside.words) (bit_in c.plus.inside.words) c.args.self.now c.args.plus.now c.self.view_is c.plus.view_is) in
    let less : c.count_two-more.result.1 ≡ length (meet c.args.self.now c.args.minus.now) = c.count_two-more.ensures.minus
    ∙ ap length (meet-view (bit_in c.self.inside.words) (bit_in c.minus.inside.words) c.args.self.now c.args.minus.now c.self.view_is c.minus.view_is) in
    omega (arith, ints, more, less, c.count_two-more.ensures.bound.0, c.count_two-more.ensures.bound.1)
