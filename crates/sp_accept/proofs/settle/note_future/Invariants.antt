use Rattle.std.proofs.Common.{◌≡◌, ◌<◌, ℕ, true}
use Rattle.sp_model.specs.Graph.{has}
use Rattle.sp_accept.specs.Standing.{is_below}
use Rattle.sp_accept.proofs.settle.note_future.Given as goal

abbrev pub invariant-above : goal.invariant-above
invariant-above g l = record {
  kept : (z : ℕ) → has l.initial.todo z ≡ true → has l.todo z ≡ true;
  above : (z : ℕ) → z < l.z → is_below (g.O.Order.table l.order) l.block z ≡ true → has l.todo z ≡ true;
}
