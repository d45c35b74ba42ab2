use Rattle.std.proofs.Common.{ℕ, ◌<◌, ◌≤◌, ◌-◌, length}
use Rattle.sp_accept.specs.Rows.{row_at}
use Rattle.sp_accept.proofs.lookups.first_from.Given as goal

abbrev pub invariant-halves : goal.invariant-halves
invariant-halves l = record {
  order : l.low ≤ l.high;
  within : l.high ≤ length l.carriers.rows;
  below : (c : ℕ) → c < l.low → (row_at l.carriers.rows c).block < l.block;
  from : (c : ℕ) → l.high ≤ c → c < length l.carriers.rows → l.block ≤ (row_at l.carriers.rows c).block;
}

abbrev pub decreases-halves : goal.decreases-halves
decreases-halves l = l.high - l.low
