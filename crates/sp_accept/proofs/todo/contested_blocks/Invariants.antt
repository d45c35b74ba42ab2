use Rattle.std.proofs.Common.{◌≡◌, ◌<◌, ◌≤◌, ℕ, true}
use Rattle.sp_model.specs.Graph.{has}
use Rattle.sp_accept.specs.Rows.{row_at}
use Rattle.sp_accept.specs.Todo.{is_contested}
use Rattle.sp_accept.proofs.todo.contested_blocks.Given as goal

abbrev pub invariant-carriers : goal.invariant-carriers
invariant-carriers l =
    (d : ℕ) → l.from ≤ d → d < l.c → (row_at l.carriers.rows d).sound ≡ true → is_contested l.carriers (row_at l.carriers.rows d).tx ≡ true
    → has l.blocks (row_at l.carriers.rows d).block ≡ true
