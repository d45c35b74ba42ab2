use Rattle.std.proofs.Common.{◌≡◌, ◌≤◌, length, ap, arith}
use Rattle.sp_carry.specs.Lookups.{spenders_in}
use Rattle.sp_money.proofs.Counts.{few_spenders}
use Rattle.sp_money.proofs.store.Store.spender_count.Goals as goal

pub count_set-requires : goal.count_set-requires
count_set-requires c =
    let few : length (spenders_in c.args.carriers.now.txs c.args.from.now) ≤ length c.args.carriers.now.txs = few_spenders c.args.carriers.now.txs c.args.from.now in
    let is : length c.spenders_of.result.now ≡ length (spenders_in c.args.carriers.now.txs c.args.from.now) = ap length c.spenders_of.ensures in
    omega arith
