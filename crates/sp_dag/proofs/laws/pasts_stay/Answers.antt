use Rattle.sp_dag.proofs.Ranked.{pairs_ascend, pairs_behind}
use Rattle.sp_dag.proofs.laws.pasts_stay.Goals as goal

pub returns-clause-pairs : goal.returns-clause-pairs
returns-clause-pairs c = pairs_behind

pub returns-clause-order : goal.returns-clause-order
returns-clause-order c = pairs_ascend
