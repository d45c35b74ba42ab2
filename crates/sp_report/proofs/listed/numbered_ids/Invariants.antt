use Rattle.std.proofs.Common.{◌≡◌, take}
use Rattle.sp_engine.specs.Presence.{order_of}
use Rattle.sp_report.proofs.listed.numbered_ids.Given as goal

abbrev pub invariant-number : goal.invariant-number
invariant-number l = l.ids.items ≡ take l.number (order_of l.engine.kept)
