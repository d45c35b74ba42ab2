use Rattle.sp_disk.proofs.Within.{grows}
use Rattle.sp_disk.proofs.laws.moments_within_calls.Goals as goal

pub returns-clause-write : goal.returns-clause-write
returns-clause-write c disk at bytes done image left = grows disk at bytes done image left
