use Rattle.sp_accept.proofs.Outcome.{outcome}
use Rattle.sp_accept.proofs.accepted.Accepted.update.Goals as goal

pub returns : goal.returns
returns g c =
    let left = outcome (g.O.Order.table c.args.order.now) c.args.carriers.now c.block_count-self-inside.ensures.carried c.requires.of _ _ c.self.view_is c.requires.right
    c.decide_on_changes.new.flags.items c.in_ok-flips.flips.items c.in_ok-flips.ensures.flips c.decide_on_changes.new.txs.items c.set_flips.new.txs.items c.tx_count.result c.deref.result.now
    c.in_ok-flips.ensures.same c.tx_count.ensures.value c.deref.ensures.value c.set_flips.ensures c.in_ok-flips.ensures.long c.in_ok-flips.ensures.settled
    c.block_count-self-inside.result c.block_count-self-inside.ensures.value in
    record {
      right = left.0;
      blocks = c.block_count-self-inside.ensures.value;
      flips = left.1;
      known = c.in_ok-flips.ensures.known;
      err = tt;
    }
