use Rattle.std.proofs.Common.{◌+◌, ◌<◌, ◌^◌, ℕ, ap, get_or, arith, rules}
use Rattle.sp_bits.proofs.Bits.{none-shared, words-shared}
use Rattle.sp_bits.proofs.words.add_part.Goals as goal

pub returns-then-word-from-clause-plus : goal.returns-then-word-from-clause-plus
returns-then-word-from-clause-plus c = none-shared c.args.own.now c.args.plus.now c.args.word c.args.more.now (λ p here low high. (let known = c.requires.within p here in omega (arith, known.0, high, c.if-word-from.true)))

pub returns-then-word-from-clause-minus : goal.returns-then-word-from-clause-minus
returns-then-word-from-clause-minus c = none-shared c.args.own.now c.args.minus.now c.args.word c.args.less.now (λ p here low high. (let known = c.requires.within p here in omega (arith, known.0, high, c.if-word-from.true)))

pub returns-then-end-word-clause-plus : goal.returns-then-end-word-clause-plus
returns-then-end-word-clause-plus c = none-shared c.args.own.now c.args.plus.now c.args.word c.args.more.now (λ p here low high. (let known = c.requires.within p here in omega (arith, known.1, low, c.if-end-word.true)))

pub returns-then-end-word-clause-minus : goal.returns-then-end-word-clause-minus
returns-then-end-word-clause-minus c = none-shared c.args.own.now c.args.minus.now c.args.word c.args.less.now (λ p here low high. (let known = c.requires.within p here in omega (arith, known.1, low, c.if-end-word.true)))

pub returns-clause-plus : goal.returns-clause-plus
returns-clause-plus c =
    let low : get_or c.args.own.now c.args.word 0 < 2 ^ 64 = search rules in
    let other : get_or c.args.plus.now c.args.word 0 < 2 ^ 64 = search rules in
    let high : get_or c.args.own.now (c.args.word + 1) 0 < 2 ^ 64 = search rules in
    let others : get_or c.args.plus.now (c.args.word + 1) 0 < 2 ^ 64 = search rules in
    ap (λ (n : ℕ). c.args.more.now + n) (words-shared c.args.own.now c.args.plus.now c.args.word low other high others)

pub returns-clause-minus : goal.returns-clause-minus
returns-clause-minus c =
    let low : get_or c.args.own.now c.args.word 0 < 2 ^ 64 = search rules in
    let other : get_or c.args.minus.now c.args.word 0 < 2 ^ 64 = search rules in
    let high : get_or c.args.own.now (c.args.word + 1) 0 < 2 ^ 64 = search rules in
    let others : get_or c.args.minus.now (c.args.word + 1) 0 < 2 ^ 64 = search rules in
    ap (λ (n : ℕ). c.args.less.now + n) (words-shared c.args.own.now c.args.minus.now c.args.word low other high others)
