use Rattle.std.proofs.Common.{◌≡◌}
use Rattle.sp_money.specs.Places.{marked}
use Rattle.sp_money.specs.Kept.{held_of, IsKept}
use Rattle.sp_money.proofs.Puts.{with_lives}
use Rattle.sp_money.proofs.store.Store.set_live.Given as goal

abbrev pub invariant-outputs : goal.invariant-outputs
invariant-outputs l =
    IsKept l.self × (held_of l.self ≡ with_lives (held_of l.initial.self) (marked (held_of l.initial.self).live l.start l.index l.now))
