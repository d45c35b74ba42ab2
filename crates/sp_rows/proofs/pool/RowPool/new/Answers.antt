use Rattle.std.proofs.Common.{[], refl, arith}
use Rattle.sp_rows.proofs.pool.RowPool.new.Goals as goal

pub invariant_of-result : goal.invariant_of-result
invariant_of-result c =
    rw (c.new.ensures, c.new-2.ensures.items) (record {
      whole = λ k le. absurd (omega arith);
      room = omega arith;
      few = omega arith;
      all = refl;
      counted = refl;
      frees = c.new-3.ensures [];
    })
