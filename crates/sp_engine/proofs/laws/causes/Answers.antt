use Rattle.sp_engine.proofs.Judgements.{full_is_caused, held_is_caused, kept_is_caused, known_is_caused, spelling_is_caused, work_is_caused}
use Rattle.sp_engine.proofs.laws.causes.Goals as goal

pub returns-clause-spelling : goal.returns-clause-spelling
returns-clause-spelling c = spelling_is_caused

pub returns-clause-work : goal.returns-clause-work
returns-clause-work c = work_is_caused

pub returns-clause-known : goal.returns-clause-known
returns-clause-known c = known_is_caused

pub returns-clause-full : goal.returns-clause-full
returns-clause-full c = full_is_caused

pub returns-clause-held : goal.returns-clause-held
returns-clause-held c = held_is_caused

pub returns-clause-kept : goal.returns-clause-kept
returns-clause-kept c = kept_is_caused
