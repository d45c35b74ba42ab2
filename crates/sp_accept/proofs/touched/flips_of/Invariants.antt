use Rattle.std.proofs.Common.{◌≡◌, take}
use Rattle.sp_accept.specs.Flips.{flips_among}
use Rattle.sp_accept.specs.Pass.{is_carried_flag}
use Rattle.sp_accept.proofs.touched.flips_of.Given as goal

abbrev pub invariant-txs : goal.invariant-txs
invariant-txs l = l.flips.items ≡ flips_among l.old (is_carried_flag l.carriers l.flags) (take l.tx-index l.txs)
