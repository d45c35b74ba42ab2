use Rattle.std.proofs.Common.{◌≡◌, ◌-◌, ◌++◌, false, length, replicate, take}
use Rattle.sp_money.specs.Held.{IsOf}
use Rattle.sp_money.specs.Kept.{held_of, IsEarly, IsKept}
use Rattle.sp_money.specs.Growth.{IsLonger}
use Rattle.sp_money.proofs.store.Store.add_txs.Given as goal

abbrev pub invariant-txs : goal.invariant-txs
invariant-txs l =
    IsKept l.self × IsLonger l.initial.self l.self × IsOf (take l.tx l.carriers.txs) (held_of l.self)
    × (IsEarly l.initial.self → IsEarly l.self)
    × (l.self.accepted.items ≡ l.initial.self.accepted.items ++ replicate (l.tx - length l.initial.self.accepted.items) false)
