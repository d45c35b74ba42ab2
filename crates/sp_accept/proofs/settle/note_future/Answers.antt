use Rattle.std.proofs.Common.{arith}
use Rattle.sp_dag.proofs.Ranked.{ancestors_lower}
use Rattle.sp_accept.proofs.settle.note_future.Goals as goal

pub above-init : goal.above-init
above-init g c = record {
  kept = λ z there. there;
  above = λ z lt under.
      absurd (omega (
        arith,
        lt,
        ancestors_lower (g.O.Order.table c.args.order.now) c.args.block z c.requires.order (omega (arith, lt, c.requires.count, c.requires.within)) under,
      ));
}
