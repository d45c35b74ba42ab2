use Rattle.sp_accept.proofs.Toggled.{turned_on}
use Rattle.sp_accept.proofs.settle.settle.Goals as goal

pub returns-in_err-settle_next-clause-turned : goal.returns-in_err-settle_next-clause-turned
returns-in_err-settle_next-clause-turned g c =
    turned_on c.args.flags.now.items c.due.flags.items c.settle_next.new.flags.items c.args.turned.now.items c.due.turned.items c.settle_next.new.turned.items c.due.invariant.turned
    c.settle_next.ensures.turned

pub due-preserved : goal.due-preserved
due-preserved g c = record {
  settled = c.in_ok-settle_next.ensures.settled;
  turned = turned_on c.args.flags.now.items c.due.flags.items c.settle_next.new.flags.items c.args.turned.now.items c.due.turned.items c.settle_next.new.turned.items c.due.invariant.turned
      c.in_ok-settle_next.ensures.turned;
  kept = c.in_ok-settle_next.ensures.kept;
}
