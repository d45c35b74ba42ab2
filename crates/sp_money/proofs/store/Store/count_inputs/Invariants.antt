use Rattle.std.proofs.Common.{◌≡◌, take}
use Rattle.sp_money.specs.Places.{counted}
use Rattle.sp_money.specs.Kept.{held_of, IsKept}
use Rattle.sp_money.proofs.Puts.{with_counts}
use Rattle.sp_money.proofs.store.Store.count_inputs.Given as goal

abbrev pub invariant-inputs : goal.invariant-inputs
invariant-inputs l =
    IsKept l.self
    × (held_of l.self
    ≡ with_counts (held_of l.initial.self) (counted l.now (take l.input-index l.inputs) (held_of l.initial.self).coins (held_of l.initial.self).spenders))
