use Rattle.std.proofs.Common.{ap}
use Rattle.sp_dag.specs.Numbered.{Numbered}
use Rattle.sp_engine.proofs.first.first_of.Goals as goal

pub first_decided-requires-clause-alone : goal.first_decided-requires-clause-alone
first_decided-requires-clause-alone c = ap (λ (n : Numbered). n.parents) c.in_ok-dag.ensures
