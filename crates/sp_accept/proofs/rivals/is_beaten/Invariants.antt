use Rattle.std.proofs.Common.{◌≡◌, false, take}
use Rattle.std.specs.List.{list_any}
use Rattle.sp_accept.specs.Pass.{is_beaten_at}
use Rattle.sp_accept.proofs.rivals.is_beaten.Given as goal

abbrev pub invariant-carriers : goal.invariant-carriers
invariant-carriers g l =
    list_any (is_beaten_at (g.O.Order.table l.order) l.carriers l.flags l.block) (take l.c-index l.of_tx) ≡ false
