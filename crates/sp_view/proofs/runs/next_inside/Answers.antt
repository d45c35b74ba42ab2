use Rattle.std.proofs.Common.{arith}
use Rattle.sp_view.proofs.runs.next_inside.Goals as goal

pub returns-clause-out : goal.returns-clause-out
returns-clause-out c = λ i x z at later less. c.member_from.ensures.out i x z at (omega (arith, later)) less
