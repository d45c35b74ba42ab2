use Rattle.std.proofs.Common.{◌≡◌, false, take}
use Rattle.std.specs.List.{list_any}
use Rattle.sp_accept.specs.Pass.{is_lost}
use Rattle.sp_accept.proofs.rivals.is_outdone.Given as goal

abbrev pub invariant-inputs : goal.invariant-inputs
invariant-inputs g l =
    list_any (is_lost (g.O.Order.table l.order) l.carriers l.flags l.row) (take l.input-index l.inputs) ≡ false
