use Rattle.std.proofs.Common.{◌≡◌, ◌∙◌, ap, arith}
use Rattle.std.specs.List.{range_with_len}
use Rattle.sp_plain.proofs.FirstNumbers.{first_closed, first_more}
use Rattle.sp_plain.proofs.firsts.first_blocks.Goals as goal

pub numbers-preserved : goal.numbers-preserved
numbers-preserved c = c.set.ensures ∙ first_more c.numbers.row c.numbers.number (omega arith) c.numbers.invariant

pub returns-clause-closed : goal.returns-clause-closed
returns-clause-closed c =
    first_closed c.args.dag.now c.args.count c.numbers.row c.len-blocks.ensures.numbered.order c.requires
    (let all : c.numbers.number ≡ c.args.count = omega arith in c.numbers.invariant ∙ ap (range_with_len 0) all)
