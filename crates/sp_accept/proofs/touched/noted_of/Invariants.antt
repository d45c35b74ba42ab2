use Rattle.std.proofs.Common.{◌≡◌, ◌==◌, ◌-◌, ℕ, length, take}
use Rattle.std.specs.List.{list_any}
use Rattle.sp_carry.specs.Flags.{is_set}
use Rattle.sp_accept.specs.Rows.{row_at}
use Rattle.sp_accept.proofs.touched.noted_of.Given as goal

abbrev pub invariant-turned : goal.invariant-turned
invariant-turned l = record {
  long : length l.noted.items ≡ l.end - l.first;
  noted : (n : ℕ) → is_set l.noted.items n ≡ list_any (λ c. (row_at l.carriers.rows c).tx - l.first == n) (take l.c-index l.turned);
}
