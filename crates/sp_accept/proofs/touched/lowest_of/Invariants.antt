use Rattle.std.proofs.Common.{◌≤◌, take}
use Rattle.std.specs.Prelude.{All}
use Rattle.sp_accept.specs.Rows.{row_at}
use Rattle.sp_accept.proofs.touched.lowest_of.Given as goal

abbrev pub invariant-turned : goal.invariant-turned
invariant-turned l = All (λ c. l.first ≤ (row_at l.carriers.rows c).tx) (take l.c-index l.turned)
