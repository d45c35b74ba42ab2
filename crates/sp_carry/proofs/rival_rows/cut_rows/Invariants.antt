use Rattle.sp_carry.specs.RivalBlocks.{AreCut}
use Rattle.sp_carry.proofs.rival_rows.cut_rows.Given as goal

abbrev pub invariant-rows : goal.invariant-rows
invariant-rows l = AreCut l.left l.blocks l.place l.fn.rows.items l.rows.items
