use Rattle.std.proofs.Common.{ap, subst, List}
use Rattle.sp_rows.specs.Pool.{Counted, AreRows}
use Rattle.sp_rows.proofs.Keeps.{AreRows-kept}
use Rattle.sp_rows.proofs.pool.RowPool.live.Goals as goal

pub returns-clause-rows : goal.returns-clause-rows
returns-clause-rows c =
    let p = c.self.inside in
    subst (λ (rows : List Counted). AreRows 0 rows) (ap (λ pool. pool.rows) c.self.view_is) (AreRows-kept p.chunks p.counts.items p.free p.spare p.live c.self.invariant)
