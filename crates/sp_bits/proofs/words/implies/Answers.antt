use Rattle.std.proofs.Common.{◌<◌, ◌^◌, get_or, arith, rules}
use Rattle.sp_bits.specs.Words.{bit_in}
use Rattle.sp_bits.proofs.Counts.{all_places, some_place}
use Rattle.sp_bits.proofs.Bits.{lacking, lacking-none}
use Rattle.sp_bits.proofs.words.implies.Goals as goal

pub returns-then-one-word-ne0 : goal.returns-then-one-word-ne0
returns-then-one-word-ne0 c =
    let fits : get_or c.args.one.now c.words.word 0 < 2 ^ 64 = search rules in let fit : get_or c.args.other.now c.words.word 0 < 2 ^ 64 = search rules in
    let found = lacking c.args.one.now c.args.other.now c.words.word (omega arith) (omega arith) fits fit in
    some_place (bit_in c.args.one.now) (bit_in c.args.other.now) found.0 found.1 found.2 found.3

pub words-preserved : goal.words-preserved
words-preserved c =
    let fit : get_or c.args.other.now c.words.word 0 < 2 ^ 64 = search rules in
    lacking-none c.args.one.now c.args.other.now c.words.word (omega arith) fit c.words.invariant

pub returns : goal.returns
returns c = all_places (bit_in c.args.one.now) (bit_in c.args.other.now) (λ p le. c.words.invariant p (omega (arith, le)))
