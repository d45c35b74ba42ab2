use Rattle.std.proofs.Common.{◌≡◌, map, take, length}
use Rattle.std.specs.Prelude.{vec_len, vec_capacity}
use Rattle.sp_dag.specs.Numbered.{number_of}
use Rattle.sp_dag.proofs.numbers.numbers_in.Given as goal

abbrev pub invariant-loop-parent : goal.invariant-loop-parent
invariant-loop-parent l =
    (l.numbers.items ≡ map (number_of l.ids.keys) (take l.parent-index l.parents))
    × (vec_len l.numbers ≡ l.parent-index) × (vec_capacity l.numbers ≡ length l.parents)
