use Rattle.std.proofs.Common.{◌&&◌, not}
use Rattle.sp_accept.specs.Around.{is_unbeaten}
use Rattle.sp_accept.specs.Standing.{is_below}
use Rattle.sp_accept.proofs.Rowwise.{IsFilled}
use Rattle.sp_accept.proofs.rival_blocks.around_of.Given as goal

abbrev pub invariant-others : goal.invariant-others
invariant-others g l = record {
  beaten : IsFilled (λ w. not (is_unbeaten (g.O.Order.table l.order) l.block w)) l.rivals l.other l.around.beaten;
  safe : IsFilled (λ w. not (is_unbeaten (g.O.Order.table l.order) l.block w) && not (is_below (g.O.Order.table l.order) w l.block)) l.rivals l.other l.around.safe;
}
