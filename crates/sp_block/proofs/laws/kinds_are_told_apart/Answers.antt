use Rattle.std.proofs.Common.{false, true}
use Rattle.sp_block.proofs.Whole.{one_of_either_kind, other_kind}
use Rattle.sp_block.proofs.laws.kinds_are_told_apart.Goals as goal

pub returns-clause-genesis : goal.returns-clause-genesis
returns-clause-genesis c = λ list parts. other_kind list true parts

pub returns-clause-other : goal.returns-clause-other
returns-clause-other c = λ list parts. other_kind list false parts

pub returns-clause-one : goal.returns-clause-one
returns-clause-one c = one_of_either_kind
