use Rattle.std.proofs.Common.{◌∙◌}
use Rattle.sp_bits.specs.Places.{places_where}
use Rattle.sp_bits.specs.Words.{bit_in}
use Rattle.sp_bits.proofs.Counts.{within-view}
use Rattle.sp_bits.proofs.row.Row.within.Goals as goal

pub returns : goal.returns
unfolding places_where
returns c =
    c.implies.ensures
    ∙ within-view (bit_in c.self.inside.words) (bit_in c.other.inside.words) c.args.self.now c.args.other.now c.self.view_is c.other.view_is
