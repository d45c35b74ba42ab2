use Rattle.sp_engine.proofs.AnyOrder.{apart_keeps, kept_keeps, plain_keeps}
use Rattle.sp_engine.proofs.laws.arrivals_in_any_order.Goals as goal

pub returns-clause-kept : goal.returns-clause-kept
returns-clause-kept c = kept_keeps

pub returns-clause-apart : goal.returns-clause-apart
returns-clause-apart c = apart_keeps

pub returns-clause-plain : goal.returns-clause-plain
returns-clause-plain c = plain_keeps
