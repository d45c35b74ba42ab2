use Rattle.std.proofs.Common.{◌≡◌, false, take}
use Rattle.std.specs.List.{list_any}
use Rattle.sp_accept.specs.Pass.{is_accepted_below}
use Rattle.sp_accept.proofs.sources.is_paid.Given as goal

abbrev pub invariant-carriers : goal.invariant-carriers
invariant-carriers g l =
    list_any (is_accepted_below (g.O.Order.table l.order) l.carriers l.flags l.block) (take l.c-index l.of_tx) ≡ false
