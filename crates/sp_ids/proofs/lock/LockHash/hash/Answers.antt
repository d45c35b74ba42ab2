use Rattle.sp_ids.proofs.Numbers.{bytes_seen}
use Rattle.sp_ids.proofs.lock.LockHash.hash.Goals as goal

pub returns : goal.returns
returns g c = rw (bytes_seen c.self.inside.0 c.args.self.now c.self.view_is c.self.invariant) c.hash.ensures
