use Rattle.std.proofs.Common.{length, ap, arith}
use Rattle.sp_report.proofs.NamedIds.{in_order_long}
use Rattle.sp_report.proofs.ordered.blocks_by_names.Goals as goal

pub returns-clause-long : goal.returns-clause-long
returns-clause-long c =
    omega (arith, c.in_ok-ordered.ordered.ok, ap length c.in_ok-ordered.ensures, in_order_long c.args.names.now.blocks c.args.ids.now c.block_count-count.ensures.labels.blocks.once c.requires.once)
