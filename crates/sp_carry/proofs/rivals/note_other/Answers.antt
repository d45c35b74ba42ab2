use Rattle.sp_carry.proofs.Finding.{carriers_below}
use Rattle.sp_carry.proofs.rivals.note_other.Goals as goal

pub note_sound-requires : goal.note_sound-requires
note_sound-requires c = rw (c.carriers_of.ensures, c.deref.ensures.value) (carriers_below c.args.table.now.rows.items c.args.other)
