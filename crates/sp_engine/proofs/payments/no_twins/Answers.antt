use Rattle.sp_engine.proofs.Twins.{named_once, no_twins}
use Rattle.sp_engine.proofs.payments.no_twins.Goals as goal

pub returns-clause-apart : goal.returns-clause-apart
returns-clause-apart c = no_twins

pub returns-clause-once : goal.returns-clause-once
returns-clause-once c = named_once
