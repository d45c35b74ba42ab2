use Rattle.std.proofs.Common.{◌≡◌}
use Rattle.sp_accept.specs.Flips.{flips_of}
use Rattle.sp_accept.proofs.flips.flips_between.Given as goal

abbrev pub invariant-txs : goal.invariant-txs
invariant-txs l = l.flips.items ≡ flips_of l.old l.new l.tx
