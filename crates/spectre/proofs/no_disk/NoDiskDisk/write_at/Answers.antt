use Rattle.sp_disk.proofs.UntoldCalls.{untold_writes}
use Rattle.spectre.proofs.no_disk.NoDiskDisk.write_at.Goals as goal

pub returns-clause-writes : goal.returns-clause-writes
returns-clause-writes c = untold_writes _ _ _ _ _
