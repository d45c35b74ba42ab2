use Rattle.std.proofs.Common.{◌≡◌, take}
use Rattle.sp_carry.specs.Flags.{with_flips}
use Rattle.sp_money.specs.Held.{IsOf}
use Rattle.sp_money.specs.Kept.{held_of, IsKept}
use Rattle.sp_money.proofs.store.Store.flip_all.Given as goal

abbrev pub invariant-flips : goal.invariant-flips
invariant-flips l =
    IsKept l.self × IsOf l.carriers.txs (held_of l.self) × (l.self.accepted.items ≡ with_flips l.initial.self.accepted.items (take l.flip-index l.flips))
