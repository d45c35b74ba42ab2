use Rattle.std.proofs.Common.{◌∙◌, ap, length}
use Rattle.sp_bits.specs.Places.{places_where}
use Rattle.sp_bits.specs.Words.{bit_in}
use Rattle.sp_bits.proofs.Sets.{meet-view}
use Rattle.sp_bits.proofs.row.Row.count_and.Goals as goal

pub returns-clause-value : goal.returns-clause-value
unfolding places_where
returns-clause-value c =
    c.count_both.ensures.count
    ∙ ap length (meet-view (bit_in c.self.inside.words) (bit_in c.other.inside.words) c.args.self.now c.args.other.now c.self.view_is c.other.view_is)
