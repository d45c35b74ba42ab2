use Rattle.std.proofs.Common.{◌&&◌, ◌*◌, ◌<◌, ◌^◌, ℕ, refl, get_or, arith, rules}
use Rattle.std.specs.Int.Bits.{and_lt}
use Rattle.std.specs.Int.RustNames.{bit_and}
use Rattle.sp_bits.specs.Words.{bit_in}
use Rattle.sp_bits.proofs.Counts.{counted}
use Rattle.sp_bits.proofs.Bits.{both-places, count-word}
use Rattle.sp_bits.proofs.words.count_two.Goals as goal

pub words-preserved : goal.words-preserved
words-preserved c =
    let own = get_or c.args.own.now c.words.word 0 in
    let plus = get_or c.args.plus.now c.words.word 0 in
    let minus = get_or c.args.minus.now c.words.word 0 in
    let fits : own < 2 ^ 64 = search rules in let plus_fits : plus < 2 ^ 64 = search rules in let minus_fits : minus < 2 ^ 64 = search rules in (
      count-word (λ (p : ℕ). bit_in c.args.own.now p && bit_in c.args.plus.now p) c.words.word (bit_and own plus) c.words.more _ (and_lt 64 own plus fits plus_fits)
          (both-places c.args.own.now c.args.plus.now c.words.word) refl c.words.invariant.0,
      count-word (λ (p : ℕ). bit_in c.args.own.now p && bit_in c.args.minus.now p) c.words.word (bit_and own minus) c.words.less _ (and_lt 64 own minus fits minus_fits)
          (both-places c.args.own.now c.args.minus.now c.words.word) refl c.words.invariant.1,
    )

pub returns-clause-plus : goal.returns-clause-plus
returns-clause-plus c =
    counted (λ (p : ℕ). bit_in c.args.own.now p && bit_in c.args.plus.now p) c.words.more (64 * c.words.word) (omega arith) c.words.invariant.0.0

pub returns-clause-minus : goal.returns-clause-minus
returns-clause-minus c =
    counted (λ (p : ℕ). bit_in c.args.own.now p && bit_in c.args.minus.now p) c.words.less (64 * c.words.word) (omega arith) c.words.invariant.1.0
