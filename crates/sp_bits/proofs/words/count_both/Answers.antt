use Rattle.std.proofs.Common.{◌&&◌, ◌*◌, ◌<◌, ◌^◌, ℕ, refl, get_or, arith, rules}
use Rattle.std.specs.Int.Bits.{and_lt}
use Rattle.std.specs.Int.RustNames.{bit_and}
use Rattle.sp_bits.specs.Words.{bit_in}
use Rattle.sp_bits.proofs.Counts.{counted}
use Rattle.sp_bits.proofs.Bits.{both-places, count-word}
use Rattle.sp_bits.proofs.words.count_both.Goals as goal

pub words-preserved : goal.words-preserved
words-preserved c =
    let one = get_or c.args.one.now c.words.word 0 in let other = get_or c.args.other.now c.words.word 0 in
    let fits : one < 2 ^ 64 = search rules in let fit : other < 2 ^ 64 = search rules in
    count-word (λ (p : ℕ). bit_in c.args.one.now p && bit_in c.args.other.now p) c.words.word (bit_and one other) c.words.count _ (and_lt 64 one other fits fit)
    (both-places c.args.one.now c.args.other.now c.words.word) refl c.words.invariant

pub returns-clause-count : goal.returns-clause-count
returns-clause-count c =
    counted (λ (p : ℕ). bit_in c.args.one.now p && bit_in c.args.other.now p) c.words.count (64 * c.words.word) (omega arith) c.words.invariant.0
