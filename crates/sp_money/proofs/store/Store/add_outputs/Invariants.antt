use Rattle.std.proofs.Common.{◌≡◌, ◌+◌, length, take}
use Rattle.sp_carry.specs.Money.{coins_from}
use Rattle.sp_money.specs.Kept.{held_of, IsKept}
use Rattle.sp_money.specs.Growth.{set_spenders, with_outputs, IsLonger}
use Rattle.sp_money.proofs.store.Store.add_outputs.Given as goal

abbrev pub invariant-outputs : goal.invariant-outputs
invariant-outputs l =
    IsKept l.self × IsLonger l.initial.self l.self × (length l.self.slots.items ≡ length l.initial.self.slots.items + l.index)
    × (held_of l.self
    ≡ with_outputs (set_spenders l.carriers.txs l.initial.self.accepted.items) (held_of l.initial.self) (take l.index (coins_from l.id 0 l.outputs)))
