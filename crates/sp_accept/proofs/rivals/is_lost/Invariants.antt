use Rattle.std.proofs.Common.{◌≡◌, ◌==◌, ◌&&◌, not, false, take}
use Rattle.std.specs.List.{list_any}
use Rattle.sp_accept.specs.Pass.{is_beaten}
use Rattle.sp_accept.proofs.rivals.is_lost.Given as goal

abbrev pub invariant-spenders : goal.invariant-spenders
invariant-spenders g l =
    list_any (λ other. not (other == l.row.tx) && is_beaten (g.O.Order.table l.order) l.carriers l.flags l.row.block other)
    (take l.other-index l.spenders) ≡ false
