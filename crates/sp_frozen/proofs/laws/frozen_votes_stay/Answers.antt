use Rattle.sp_frozen.proofs.Growth.{frozen_stays}
use Rattle.sp_frozen.proofs.laws.frozen_votes_stay.Goals as goal

pub returns : goal.returns
returns c = λ table id salt parents frozen numbered order holds. frozen_stays table id salt parents numbered order frozen holds
