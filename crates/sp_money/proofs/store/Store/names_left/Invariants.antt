use Rattle.std.proofs.Common.{◌≡◌, take}
use Rattle.sp_money.specs.Names.{left_names}
use Rattle.sp_money.proofs.store.Store.names_left.Given as goal

abbrev pub invariant-slots : goal.invariant-slots
invariant-slots l = l.names.items ≡ left_names l.lock (take l.slot-index l.slot-items)
