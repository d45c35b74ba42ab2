use Rattle.std.proofs.Common.{◌≡◌, ◌≤◌, ◌-◌, ◌++◌, false}
use Rattle.std.specs.Prelude.{length, replicate, vec_capacity}
use Rattle.sp_accept.proofs.flags.grow.Given as goal

abbrev pub invariant-flags : goal.invariant-flags
invariant-flags l = record {
  long : length l.flags.items ≡ l.counter;
  room : l.long ≤ vec_capacity l.flags;
  items : l.flags.items ≡ l.fn.flags.items ++ replicate (l.counter - length l.fn.flags.items) false;
}
