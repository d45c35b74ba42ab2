use Rattle.std.proofs.Common.{◌≤◌, length}
use Rattle.sp_carry.specs.Growth.{front}
use Rattle.sp_carry.specs.Kept.{carried_of, Keeps}
use Rattle.sp_carry.proofs.table.Table.take_back.Given as goal

abbrev pub invariant-rows : goal.invariant-rows
invariant-rows l =
    Keeps l.self (front (carried_of l.initial.self) (length l.self.rows.items)) × (l.first ≤ length l.self.rows.items) × (length l.self.rows.items ≤ length l.initial.self.rows.items)

abbrev pub decreases-rows : goal.decreases-rows
decreases-rows l = length l.self.rows.items
