use Rattle.sp_accept.specs.AcceptedRows.{AreAccepted}
use Rattle.sp_accept.specs.Todo.{AreSettledBut, AreTurned, is_due}
use Rattle.sp_accept.proofs.settle.settle.Given as goal

abbrev pub invariant-due : goal.invariant-due
invariant-due g l = record {
  settled : AreSettledBut (g.O.Order.table l.order) l.carriers l.flags.items (is_due l.carriers.rows l.todo l.block);
  turned : AreTurned l.initial.flags.items l.flags.items l.initial.turned.items l.turned.items;
  kept : AreAccepted l.carriers l.flags.items l.rows.places.items l.rows.rows.items;
}
