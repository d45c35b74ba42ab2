use Rattle.std.proofs.Common.{◌≡◌, ◌<◌, ◌≤◌, ℕ, true, false}
use Rattle.sp_model.specs.Graph.{has}
use Rattle.sp_accept.specs.Standing.{is_before, is_below}
use Rattle.sp_accept.proofs.todo.note_all_beside.Given as goal

abbrev pub invariant-laters : goal.invariant-laters
invariant-laters g l = record {
  kept : (z : ℕ) → has l.initial.todo z ≡ true → has l.todo z ≡ true;
  beside : (z w : ℕ) → z < l.blocks → l.blocks ≤ w → w < l.w → has l.news w ≡ true
      → is_below (g.O.Order.table l.order) z w ≡ false → is_before (g.O.Order.table l.order) z w ≡ false → has l.todo z ≡ true;
}
