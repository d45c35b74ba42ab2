use Rattle.sp_rows.proofs.Keeps.{freed-kept}
use Rattle.sp_rows.proofs.pool.RowPool.begin_again.Goals as goal

pub invariant_of-self : goal.invariant_of-self
invariant_of-self c =
    let p = c.self.inside in
    freed-kept p.chunks p.counts.items p.free p.spare p.live c.self.invariant c.begin_again.new.self (c.begin_again.ensures.free p.counts.items c.self.invariant.frees)
