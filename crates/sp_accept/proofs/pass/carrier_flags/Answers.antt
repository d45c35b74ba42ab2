use Rattle.sp_accept.specs.Pass.{passed}
use Rattle.sp_accept.proofs.Passed.{passed_more}
use Rattle.sp_accept.proofs.pass.carrier_flags.Goals as goal

pub carriers-init : goal.carriers-init
unfolding passed
carriers-init g c = c.in_ok-flags.ensures.items

pub carriers-preserved : goal.carriers-preserved
carriers-preserved g c =
    passed_more (g.O.Order.table c.args.order.now) c.args.carriers.now c.carriers.flags.items c.deref.result.now
    c.push.new.self.items c.is_next-now.result c.carriers.c c.carriers.invariant c.deref.ensures.value c.is_next-now.ensures
    c.in_ok-push.ensures.items
