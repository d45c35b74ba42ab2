use Rattle.sp_accept.specs.AcceptedRows.{AreAccepted}
use Rattle.sp_accept.specs.Todo.{AreSettledBut, AreTurned}
use Rattle.sp_accept.proofs.Due.{left_from}
use Rattle.sp_accept.proofs.settle.settle_block.Given as goal

abbrev pub invariant-carriers : goal.invariant-carriers
invariant-carriers g l = record {
  settled : AreSettledBut (g.O.Order.table l.order) l.carriers l.flags.items (left_from (g.O.Order.table l.order) l.carriers l.todo l.block l.c l.any);
  turned : AreTurned l.initial.flags.items l.flags.items l.initial.turned.items l.turned.items;
  kept : AreAccepted l.carriers l.flags.items l.rows.places.items l.rows.rows.items;
}
