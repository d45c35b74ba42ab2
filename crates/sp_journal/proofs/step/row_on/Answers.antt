use Rattle.std.proofs.Common.{refl}
use Rattle.sp_journal.specs.Recovery.{IsRowOf}
use Rattle.sp_journal.proofs.Looking.{on_disk, told_bytes}
use Rattle.sp_journal.proofs.step.row_on.Goals as goal

pub returns-clause-row : goal.returns-clause-row
returns-clause-row g c =
    on_disk (IsRowOf c.args.bits c.args.ids.now) c.row_in.result (g.D.Disk.now c.args.disk.now).reads c.args.at c.in_ok-count.count c.args.buffer.now c.read_at.new.out c.read_at.new.out refl
    (told_bytes (g.D.Disk.now c.args.disk.now) (g.met.D.Disk.is_moment c.args.disk.now)) c.in_ok-count.ensures.bytes c.requires.room c.row_in.ensures.row
