use Rattle.std.specs.Prelude.{ℕ, ◌<◌, ◌≢◌, Contains}
use Rattle.sp_plain.specs.Virts.{entry}
use Rattle.sp_tests_ledger.proofs.changes.differing.Given as goal

abbrev pub invariant-higher : goal.invariant-higher
invariant-higher l = (x y : ℕ) → x < y → y < l.y → entry l.one x y ≢ entry l.other x y → Contains l.pairs.items (x, y)
