use Rattle.sp_carry.proofs.Conflicts.{sources_accepted}
use Rattle.sp_carry.proofs.laws.accepted_agree.Goals as goal

pub returns-clause-sources : goal.returns-clause-sources
returns-clause-sources c = sources_accepted
