use Rattle.sp_play.proofs.Spellable.{kept_start}
use Rattle.sp_play.proofs.Twins.{ids_none}
use Rattle.sp_play.proofs.known.Known.new.Goals as goal

pub invariant_of-result : goal.invariant_of-result
invariant_of-result c = rw c.in_ok-entries.ensures (record { all = kept_start; id = tt; ids = ids_none c.new-2.result c.new-2.ensures.empty })
