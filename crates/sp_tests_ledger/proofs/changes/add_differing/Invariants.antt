use Rattle.std.specs.Prelude.{ℕ, ◌<◌, ◌≢◌, Contains}
use Rattle.sp_plain.specs.Virts.{entry}
use Rattle.sp_tests_ledger.proofs.changes.add_differing.Given as goal

abbrev pub invariant-lower : goal.invariant-lower
invariant-lower l =
    ((x : ℕ) → x < l.x → entry l.one x l.y ≢ entry l.other x l.y → Contains l.pairs.items (x, l.y))
    × ((pair : ℕ × ℕ) → Contains l.fn.pairs.items pair → Contains l.pairs.items pair)
