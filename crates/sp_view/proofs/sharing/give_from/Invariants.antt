use Rattle.std.proofs.Common.{◌≡◌, ◌≤◌, ◌+◌, ◌<◌, ℕ, take, length}
use Rattle.sp_view.specs.Stored.{count_of, row_of}
use Rattle.sp_view.specs.Views.{held}
use Rattle.sp_view.proofs.sharing.give_from.Given as goal

abbrev pub invariant-entries : goal.invariant-entries
invariant-entries l = record {
  within : l.i ≤ length l.entries;
  counts : (r : ℕ) → count_of l.fn.pool r + held (take l.start l.entries) r ≡ count_of l.pool r + held (take l.i l.entries) r;
  rows : (r : ℕ) → 0 < count_of l.pool r → row_of l.pool r ≡ row_of l.fn.pool r;
}
