use Rattle.std.proofs.Common.{arith, get_or}
use Rattle.sp_carry.specs.RivalBlocks.{is_sound_in}
use Rattle.sp_carry.proofs.Keeping.{any_default}
use Rattle.sp_carry.proofs.Marked.{marked_by_more}
use Rattle.sp_carry.proofs.marks.mark_sound.Goals as goal

pub carriers-preserved : goal.carriers-preserved
carriers-preserved c =
    marked_by_more (is_sound_in c.args.rows.now) c.args.into.now c.carriers.into c.mark_if_sound.new.into c.args.list.now c.carriers.c-index
    (get_or c.args.list.now c.carriers.c-index 0) (omega arith) (any_default c.args.list.now c.carriers.c-index 0 _ (omega arith)) c.carriers.invariant
    c.mark_if_sound.ensures
