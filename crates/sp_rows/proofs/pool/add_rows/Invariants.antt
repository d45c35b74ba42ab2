use Rattle.std.proofs.Common.{◌≡◌, ◌+◌, ◌++◌, replicate}
use Rattle.std.specs.Vec.{vec_len, vec_capacity}
use Rattle.sp_rows.proofs.pool.add_rows.Given as goal

abbrev pub invariant-rows : goal.invariant-rows
invariant-rows l = (l.counts.items ≡ l.initial.counts.items ++ replicate l.counter 0)
    × (vec_len l.counts ≡ vec_len l.initial.counts + l.counter)
    × (vec_capacity l.counts ≡ vec_capacity l.initial.counts)
