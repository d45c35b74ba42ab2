use Rattle.sp_engine.proofs.Granted.{none_conflict, sources_by_id}
use Rattle.sp_engine.proofs.payments.accepted_agree.Goals as goal

pub returns-clause-no_conflict : goal.returns-clause-no_conflict
returns-clause-no_conflict c = λ profile kept t u h plain in_t in_u. none_conflict profile kept h plain t u in_t in_u

pub returns-clause-sources : goal.returns-clause-sources
returns-clause-sources c = sources_by_id
