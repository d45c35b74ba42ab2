use Rattle.sp_pool.proofs.Firsts.{kept_are_the_first}
use Rattle.sp_pool.proofs.laws.kept_are_the_first.Goals as goal

pub returns : goal.returns
returns c = kept_are_the_first
