use Rattle.std.proofs.Common.{◌∙◌, ap, length, length-set}
use Rattle.sp_accept.specs.Todo.{grown}
use Rattle.sp_carry.proofs.Keeping.{any_default}
use Rattle.sp_carry.proofs.Flipping.{set_next}
use Rattle.sp_accept.proofs.Updated.{grown_long}
use Rattle.sp_accept.proofs.touched.set_flips.Goals as goal

pub flips-init : goal.flips-init
flips-init c = record {
  long = ap length c.grow.ensures ∙ grown_long c.args.txs.now.items c.args.long c.requires.short;
  set = c.grow.ensures;
}

pub flips-preserved : goal.flips-preserved
flips-preserved c = record {
  long = length-set c.flips.txs.items _ _ ∙ c.flips.invariant.long;
  set = set_next (grown c.args.txs.now.items c.args.long) c.flips.txs.items c.args.flips.now c.flips.flip-index _ c.flips-test.true (any_default c.args.flips.now c.flips.flip-index _ _ c.flips-test.true) c.flips.invariant.set;
}
