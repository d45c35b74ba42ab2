use Rattle.std.proofs.Common.{◌∙◌}
use Rattle.sp_engine.specs.Presence.{order_of}
use Rattle.sp_report.proofs.SortedIds.{one_more}
use Rattle.sp_report.proofs.listed.numbered_ids.Goals as goal

pub number-preserved : goal.number-preserved
number-preserved c = c.in_ok-push.ensures.items ∙ one_more (order_of c.args.engine.now.kept) c.number.ids.items c.number.number c.id_at.result c.number.invariant c.id_at.ensures
