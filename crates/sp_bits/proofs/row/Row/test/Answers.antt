use Rattle.std.proofs.Common.{ap, ◌∙◌, ◌/◌, ◌%◌, ℕ, get_or}
use Rattle.std.specs.Prelude.{◌==◌}
use Rattle.std.proofs.lemmas.Nat.Bits.{shr_and_one}
use Rattle.sp_bits.specs.Words.{bit_in}
use Rattle.sp_bits.proofs.Sets.{has-view, IsRow-view}
use Rattle.sp_bits.proofs.row.Row.test.Goals as goal

pub returns-clause-value : goal.returns-clause-value
returns-clause-value c =
    ap (λ (d : ℕ). d == 1) (shr_and_one (get_or c.self.inside.words (c.args.place / 64) 0) (c.args.place % 64))
    ∙ has-view (bit_in c.self.inside.words) c.args.self.now c.args.place c.self.view_is c.requires

pub returns-clause-row : goal.returns-clause-row
returns-clause-row c = IsRow-view (bit_in c.self.inside.words) c.args.self.now c.self.view_is
