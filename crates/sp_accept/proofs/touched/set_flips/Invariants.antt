use Rattle.std.proofs.Common.{◌≡◌, length, take}
use Rattle.sp_carry.specs.Flags.{with_flips}
use Rattle.sp_accept.specs.Todo.{grown}
use Rattle.sp_accept.proofs.touched.set_flips.Given as goal

abbrev pub invariant-flips : goal.invariant-flips
invariant-flips l = record {
  long : length l.txs.items ≡ l.long;
  set : l.txs.items ≡ with_flips (grown l.fn.txs.items l.long) (take l.flip-index l.flips);
}
