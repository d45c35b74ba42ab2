use Rattle.std.proofs.Common.{length, ap, arith}
use Rattle.sp_report.proofs.NamedIds.{in_order_long}
use Rattle.sp_report.proofs.ordered.txs_by_names.Goals as goal

pub returns-clause-long : goal.returns-clause-long
returns-clause-long c =
    omega (arith, c.in_ok-ordered.ordered.ok, ap length c.in_ok-ordered.ensures, in_order_long c.args.names.now.txs c.args.ids.now c.tx_count-count.ensures.labels.txs.once c.requires.once)
