use Rattle.std.proofs.Common.{subst}
use Rattle.sp_form.specs.Bytes.{IsBytes}
use Rattle.sp_disk.proofs.Outcomes.{is_picked}
use Rattle.sp_disk.proofs.mem_disk.MemDisk.image.Goals as goal

pub returns-clause-one : goal.returns-clause-one
returns-clause-one c = is_picked c.args.self.now c.args.pick _ c.in_ok-image.ensures (subst IsBytes c.deref.ensures.value c.are_bytes.ensures)
