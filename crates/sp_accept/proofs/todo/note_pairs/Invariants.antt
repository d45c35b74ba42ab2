use Rattle.std.proofs.Common.{◌≡◌, ◌<◌, ℕ, true, Some}
use Rattle.std.specs.Prelude.{slice_get}
use Rattle.sp_model.specs.Graph.{has}
use Rattle.sp_accept.proofs.todo.note_pairs.Given as goal

abbrev pub invariant-pairs : goal.invariant-pairs
invariant-pairs l = record {
  kept : (z : ℕ) → has l.initial.todo z ≡ true → has l.todo z ≡ true;
  pairs : (i x y : ℕ) → i < l.pair-index → slice_get l.changed i ≡ Some (x, y) → x < y → y < l.blocks → (has l.todo x ≡ true) × (has l.todo y ≡ true);
}
