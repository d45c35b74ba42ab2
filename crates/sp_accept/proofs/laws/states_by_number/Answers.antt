use Rattle.sp_accept.proofs.States.{numbered_plain}
use Rattle.sp_accept.proofs.laws.states_by_number.Goals as goal

pub returns-clause-plain : goal.returns-clause-plain
returns-clause-plain c table k set h = numbered_plain table k set h
