use Rattle.std.proofs.Common.{◌≡◌}
use Rattle.sp_accept.specs.Pass.{passed}
use Rattle.sp_accept.proofs.pass.carrier_flags.Given as goal

abbrev pub invariant-carriers : goal.invariant-carriers
invariant-carriers g l = l.flags.items ≡ passed (g.O.Order.table l.order) l.carriers l.c
