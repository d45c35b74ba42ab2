use Rattle.std.proofs.Common.{◌<◌, ◌≤◌, length, take}
use Rattle.std.specs.Prelude.{All}
use Rattle.sp_accept.specs.Rows.{row_at}
use Rattle.sp_accept.proofs.touched.bound_of.Given as goal

abbrev pub invariant-turned : goal.invariant-turned
invariant-turned l = record {
  within : l.end ≤ length l.carriers.txs;
  all : All (λ c. (row_at l.carriers.rows c).tx < l.end) (take l.c-index l.turned);
}
