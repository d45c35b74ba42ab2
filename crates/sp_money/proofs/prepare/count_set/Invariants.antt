use Rattle.std.proofs.Common.{◌≡◌, take}
use Rattle.std.specs.Prelude.{count_by}
use Rattle.sp_carry.specs.Flags.{is_set}
use Rattle.sp_money.proofs.prepare.count_set.Given as goal

abbrev pub invariant-txs : goal.invariant-txs
invariant-txs l = l.count ≡ count_by (is_set l.flags) (take l.tx-index l.txs)
