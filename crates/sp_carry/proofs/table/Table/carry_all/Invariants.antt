use Rattle.std.proofs.Common.{take}
use Rattle.sp_carry.specs.Carried.{with_carriers}
use Rattle.sp_carry.specs.Kept.{carried_of, Keeps}
use Rattle.sp_carry.proofs.table.Table.carry_all.Given as goal

abbrev pub invariant-txs : goal.invariant-txs
invariant-txs l = Keeps l.self (with_carriers l.dag (carried_of l.initial.self) (take l.place l.txs))
