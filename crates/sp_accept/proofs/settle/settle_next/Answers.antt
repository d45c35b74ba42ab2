use Rattle.std.proofs.Common.{arith}
use Rattle.sp_accept.proofs.Due.{some_turned}
use Rattle.sp_accept.proofs.settle.settle_next.Goals as goal

pub returns-then-branch-clause-settled : goal.returns-then-branch-clause-settled
returns-then-branch-clause-settled g c =
    some_turned (g.O.Order.table c.args.order.now) c.args.carriers.now c.args.todo.now c.args.block c.block_count-count.ensures.carried c.requires.of c.settle_block.new.flags.items
    c.in_ok-settle_block.field-0 c.note_future.new.todo c.note_future.ensures.kept
    (λ z lt under. c.note_future.ensures.above z (omega (arith, lt, c.block_count-count.ensures.value)) under)
    c.in_ok-settle_block.ensures.settled
