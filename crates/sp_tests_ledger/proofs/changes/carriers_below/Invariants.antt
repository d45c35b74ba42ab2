use Rattle.std.specs.Prelude.{◌≡◌, ◌≤◌, take}
use Rattle.sp_accept.specs.Changes.{carriers_below}
use Rattle.sp_tests_ledger.proofs.changes.carriers_below.Given as goal

abbrev pub invariant-carriers : goal.invariant-carriers
invariant-carriers l = (l.found ≡ carriers_below (take l.c l.carriers.rows) l.count) × (l.found ≤ l.c)
