use Rattle.std.proofs.Common.{◌<◌, ◌≤◌, ℕ, get_or, length}
use Rattle.sp_carry.specs.declared.carrier.Carrier.{Carrier}
use Rattle.sp_carry.proofs.carriers.rows_below.Given as goal

abbrev pub invariant-rows : goal.invariant-rows
invariant-rows l =
    (l.left ≤ length l.rows) × ((i : ℕ) (d : Carrier) → l.left ≤ i → i < length l.rows → l.blocks ≤ (get_or l.rows i d).block)

abbrev pub decreases-rows : goal.decreases-rows
decreases-rows l = l.left
