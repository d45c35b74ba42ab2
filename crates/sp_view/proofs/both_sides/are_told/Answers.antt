use Rattle.std.proofs.Common.{sym}
use Rattle.sp_view.proofs.Alike.{within_past}
use Rattle.sp_view.proofs.both_sides.are_told.Goals as goal

pub returns-then-is_none-clause-below_x : goal.returns-then-is_none-clause-below_x
returns-then-is_none-clause-below_x c = λ _ z h.
    within_past c.args.dag.now c.args.x c.past.result.now c.args.known.now.todo c.len-blocks.ensures.numbered.order c.requires.x_in c.past.ensures (sym c.if-not-within.ensures) z h

pub returns-then-is_none-clause-below_y : goal.returns-then-is_none-clause-below_y
returns-then-is_none-clause-below_y c = λ _ z h.
    within_past c.args.dag.now c.args.y c.past-2.result.now c.args.known.now.todo c.len-blocks.ensures.numbered.order c.requires.y_in c.past-2.ensures (sym c.if-not-within-2.ensures) z h
