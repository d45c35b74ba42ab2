use Rattle.std.proofs.Common.{◌≡◌, ◌≤◌, ◌+◌, ℕ, length, take}
use Rattle.std.specs.Prelude.{vec_capacity, vec_len}
use Rattle.sp_view.specs.Stored.{count_of, row_of, live}
use Rattle.sp_view.specs.Views.{held}
use Rattle.sp_view.proofs.sharing.share_entries.Given as goal

abbrev pub invariant-entries : goal.invariant-entries
invariant-entries l = record {
  room : length l.entries ≤ vec_capacity l.copy;
  long : vec_len l.copy ≡ l.i;
  same : l.copy.items ≡ take l.i l.entries;
  counts : (r : ℕ) → count_of l.pool r ≡ count_of l.fn.pool r + held (take l.i l.entries) r;
  rows : (r : ℕ) → row_of l.pool r ≡ row_of l.fn.pool r;
  live : live l.pool ≡ live l.fn.pool;
}
