use Rattle.std.proofs.Common.{◌*◌, ◌&&◌, ℕ, arith}
use Rattle.sp_bits.specs.Words.{bit_in}
use Rattle.sp_bits.proofs.Bits.{shared-more}
use Rattle.sp_bits.proofs.Counts.{counted}
use Rattle.sp_bits.proofs.words.count_span.Goals as goal

pub parts-preserved : goal.parts-preserved
parts-preserved c = (
  shared-more c.args.own.now c.args.plus.now c.parts.part c.parts.more c.add_part.new.more c.parts.invariant.0 c.add_part.ensures.plus c.add_part.ensures.few.0,
  shared-more c.args.own.now c.args.minus.now c.parts.part c.parts.less c.add_part.new.less c.parts.invariant.1 c.add_part.ensures.minus c.add_part.ensures.few.1,
)

pub returns-clause-plus : goal.returns-clause-plus
returns-clause-plus c =
    counted (λ (p : ℕ). bit_in c.args.own.now p && bit_in c.args.plus.now p) c.parts.more (128 * c.parts.part) (omega arith) c.parts.invariant.0.0

pub returns-clause-minus : goal.returns-clause-minus
returns-clause-minus c =
    counted (λ (p : ℕ). bit_in c.args.own.now p && bit_in c.args.minus.now p) c.parts.less (128 * c.parts.part) (omega arith) c.parts.invariant.1.0
