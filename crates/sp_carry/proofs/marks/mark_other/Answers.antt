use Rattle.sp_carry.proofs.Finding.{carriers_below}
use Rattle.sp_carry.proofs.marks.mark_other.Goals as goal

pub mark_sound-requires-clause-list : goal.mark_sound-requires-clause-list
mark_sound-requires-clause-list c = rw (c.carriers_of.ensures, c.deref.ensures.value) (carriers_below c.args.table.now.rows.items c.args.other)
