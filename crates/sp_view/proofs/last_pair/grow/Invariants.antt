use Rattle.std.proofs.Common.{◌≡◌, ◌≤◌, ℕ}
use Rattle.std.specs.Prelude.{vec_len, vec_capacity}
use Rattle.sp_view.specs.Views.{entry_at, held}
use Rattle.sp_view.proofs.last_pair.grow.Given as goal

abbrev pub invariant-entries : goal.invariant-entries
invariant-entries l = record {
  long : vec_len l.entries ≡ l.counter;
  room : l.long ≤ vec_capacity l.entries;
  capacity : vec_capacity l.entries ≡ vec_capacity l.fn.entries;
  entry : (i : ℕ) → entry_at l.entries.items i ≡ entry_at l.fn.entries.items i;
  held : (r : ℕ) → held l.entries.items r ≡ held l.fn.entries.items r;
}
