use Rattle.std.proofs.Common.{◌≡◌, ◌≤◌, ◌+◌}
use Rattle.std.specs.Prelude.{vec_len, vec_capacity}
use Rattle.sp_dag.proofs.SoFar.{AreSoFar}
use Rattle.sp_dag.proofs.pairs.push_unrelated.Given as goal

abbrev pub invariant-loop-lower : goal.invariant-loop-lower
invariant-loop-lower l =
    AreSoFar l.initial.pairs.items l.pairs.items l.past l.number l.lower l.indices.items
    × (vec_len l.pairs + l.number ≤ vec_capacity l.pairs + l.lower)
    × (vec_len l.pairs ≤ vec_len l.initial.pairs + l.lower)
    × (vec_len l.indices ≡ l.lower)
    × (l.number ≤ vec_capacity l.indices)
