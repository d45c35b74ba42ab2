use Rattle.std.proofs.Common.{◌≡◌, ◌-◌, length}
use Rattle.sp_disk.specs.Moments.{Looks}
use Rattle.sp_journal.proofs.Stepping.{AreRead}
use Rattle.sp_journal.proofs.step.read_all.Given as goal

abbrev pub invariant-each : goal.invariant-each
invariant-each g l = record {
  room : length l.buffer ≡ 65550;
  looks : Looks (g.D.Disk.now l.fn.disk) (g.D.Disk.now l.disk);
  same_count : (g.D.Disk.now l.disk).faults ≡ (g.D.Disk.now l.fn.disk).faults;
  read : AreRead (g.D.Disk.now l.fn.disk).reads l.bits (l.fn.ids).items l.start l.blocks.items l.ids.items l.place;
}

abbrev pub decreases-each : goal.decreases-each
decreases-each g l = 512 - length l.blocks.items
