use Rattle.std.proofs.Common.{◌≡◌, ◌<◌, ℕ, true, false}
use Rattle.sp_model.specs.Graph.{has}
use Rattle.sp_accept.specs.Standing.{is_before, is_below}
use Rattle.sp_accept.proofs.todo.note_beside.Given as goal

abbrev pub invariant-firsts : goal.invariant-firsts
invariant-firsts g l = record {
  kept : (z : ℕ) → has l.initial.todo z ≡ true → has l.todo z ≡ true;
  beside : (z : ℕ) → z < l.z → is_below (g.O.Order.table l.order) z l.new ≡ false → is_before (g.O.Order.table l.order) z l.new ≡ false → has l.todo z ≡ true;
}
