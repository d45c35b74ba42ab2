use Rattle.sp_engine.proofs.Judgements.{kept_are_of_arrivals, no_others_are_kept}
use Rattle.sp_engine.proofs.laws.kept_are_of_arrivals.Goals as goal

pub returns-clause-kept : goal.returns-clause-kept
returns-clause-kept c = kept_are_of_arrivals

pub returns-clause-only : goal.returns-clause-only
returns-clause-only c = no_others_are_kept
