use Rattle.std.proofs.Common.{◌≡◌, map, take}
use Rattle.sp_tx.specs.Spending.{id_of}
use Rattle.sp_carry.proofs.carriers.ids_of.Given as goal

abbrev pub invariant-txs : goal.invariant-txs
invariant-txs l = l.ids.items ≡ map id_of (take l.tx-index l.txs)
