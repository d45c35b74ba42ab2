use Rattle.std.proofs.Common.{◌∙◌, ap, length}
use Rattle.sp_bits.specs.Places.{places_where}
use Rattle.sp_bits.specs.Words.{bit_in}
use Rattle.sp_bits.proofs.Sets.{count-view, IsRow-view}
use Rattle.sp_bits.proofs.row.Row.count.Goals as goal

pub returns-clause-value : goal.returns-clause-value
unfolding places_where
returns-clause-value c = c.count_both.ensures.count ∙ ap length (count-view (bit_in c.self.inside.words) c.args.self.now c.self.view_is)

pub returns-clause-row : goal.returns-clause-row
returns-clause-row c = IsRow-view (bit_in c.self.inside.words) c.args.self.now c.self.view_is
