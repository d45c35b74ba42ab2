use Rattle.std.proofs.Common.{◌≡◌, ◌<◌, ◌≤◌, ℕ}
use Rattle.std.specs.Prelude.{slice_get, vec_len, vec_capacity}
use Rattle.sp_view.proofs.sums.lengthen.Given as goal

abbrev pub invariant-sums : goal.invariant-sums
invariant-sums l = record {
  long : vec_len l.list ≡ l.counter;
  room : l.long ≤ vec_capacity l.list;
  more : vec_len l.fn.list ≤ vec_len l.list;
  same : (i : ℕ) → i < vec_len l.fn.list → slice_get l.list.items i ≡ slice_get l.fn.list.items i;
}
