use Rattle.std.proofs.Common.{take}
use Rattle.std.specs.List.{list_any}
use Rattle.sp_carry.specs.Kept.{carried_of}
use Rattle.sp_carry.specs.RivalBlocks.{is_rival_in, AreMarkedBy}
use Rattle.sp_carry.proofs.rival_rows.mark_carriers.Given as goal

abbrev pub invariant-news : goal.invariant-news
invariant-news l = AreMarkedBy (λ t z. list_any (is_rival_in (carried_of l.table) t z) (take l.row-index l.news)) l.initial.rows.items l.rows.items
