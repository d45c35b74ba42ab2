use Rattle.sp_block.proofs.Whole.{genesis_by_parents, genesis_parents, kind_of, other_by_parents, other_parents}
use Rattle.sp_block.proofs.laws.kinds_by_parents.Goals as goal

pub returns-clause-genesis : goal.returns-clause-genesis
returns-clause-genesis c = λ b h. (genesis_parents b h, genesis_by_parents b h)

pub returns-clause-other : goal.returns-clause-other
returns-clause-other c = λ b h. (other_parents b h, λ some. other_by_parents b h some.0)

pub returns-clause-either : goal.returns-clause-either
returns-clause-either c = kind_of
