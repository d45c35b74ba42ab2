use Rattle.std.proofs.Common.{refl}
use Rattle.sp_journal.specs.Recovery.{IsHeadOf}
use Rattle.sp_journal.proofs.Looking.{on_disk, told_bytes}
use Rattle.sp_journal.proofs.recovery.head_on.Goals as goal

pub returns-clause-found : goal.returns-clause-found
returns-clause-found g c =
    on_disk IsHeadOf c.head_in.result (g.D.Disk.now c.args.disk.now).reads 0 c.in_ok-count.count c.args.buffer.now c.read_at.new.out c.read_at.new.out refl
    (told_bytes (g.D.Disk.now c.args.disk.now) (g.met.D.Disk.is_moment c.args.disk.now)) c.in_ok-count.ensures.bytes c.requires.room c.head_in.ensures.found
