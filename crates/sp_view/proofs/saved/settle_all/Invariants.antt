use Rattle.std.proofs.Common.{◌≡◌, ◌≤◌, ◌<◌, ◌+◌, ℕ, take, length}
use Rattle.std.specs.Prelude.{vec_len}
use Rattle.sp_view.specs.Homes.{AreAlike, IsHome}
use Rattle.sp_view.specs.Stored.{count_of, row_of}
use Rattle.sp_view.specs.Views.{entry_at, held}
use Rattle.sp_view.proofs.saved.settle_all.Given as goal

abbrev pub invariant-entries : goal.invariant-entries
invariant-entries l = record {
  long : vec_len l.entries ≡ vec_len l.fn.entries;
  within : l.i ≤ length l.saved;
  ids : (j : ℕ) → j < l.i → IsHome (entry_at l.saved j) (entry_at l.fn.entries.items j) (entry_at l.entries.items j);
  rest : (j : ℕ) → l.i ≤ j → entry_at l.entries.items j ≡ entry_at l.fn.entries.items j;
  places : (j : ℕ) → AreAlike l.fn.pool l.pool (entry_at l.fn.entries.items j) (entry_at l.entries.items j);
  once : (r : ℕ) → held l.entries.items r ≤ 1;
  counts : (r : ℕ) → count_of l.pool r + (held l.fn.entries.items r + held (take l.i l.saved) r) ≡ count_of l.fn.pool r + held l.entries.items r;
  others : (r : ℕ) → held l.saved r + held l.fn.entries.items r < count_of l.fn.pool r → row_of l.pool r ≡ row_of l.fn.pool r;
}
