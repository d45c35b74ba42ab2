use Rattle.sp_disk.proofs.UntoldCalls.{untold_writes}
use Rattle.sp_tests_disk.proofs.journal.untold.UntoldDisk.write_at.Goals as goal

pub returns-clause-writes : goal.returns-clause-writes
returns-clause-writes c = untold_writes c.args.self.now.faults c.count.new.faults c.args.at c.args.bytes.now c.count.result
