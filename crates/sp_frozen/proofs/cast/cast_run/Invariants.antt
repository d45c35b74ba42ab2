use Rattle.std.proofs.Common.{◌≡◌, ◌<◌, ◌+◌, ℕ, [], cond, drop, length, ltb}
use Rattle.std.specs.Prelude.{All, vec_len, vec_capacity, slice_get, slice_index_or, Some}
use Rattle.sp_bits.specs.Places.{IsRow}
use Rattle.sp_dag.specs.Numbered.{graph_of, pairs_of}
use Rattle.sp_model.specs.Graph.{past}
use Rattle.sp_frozen.specs.PastVotes.{signs_from}
use Rattle.sp_frozen.specs.Voters.{AreFrozenBelow}
use Rattle.sp_frozen.proofs.cast.cast_run.Given as goal

abbrev pub invariant-pairs : goal.invariant-pairs
invariant-pairs l = record {
  rest : drop l.cursor l.votes ≡ signs_from (graph_of l.dag) (past (graph_of l.dag) l.b) l.i (drop l.i (pairs_of l.dag));
  pluses_long : vec_len l.pluses ≡ vec_len l.fn.pluses;
  minuses_long : vec_len l.minuses ≡ vec_len l.fn.minuses;
  pluses_room : vec_capacity l.pluses ≡ vec_capacity l.fn.pluses;
  minuses_room : vec_capacity l.minuses ≡ vec_capacity l.fn.minuses;
  plus_rows : All IsRow l.fn.pluses.items → All IsRow l.pluses.items;
  minus_rows : All IsRow l.fn.minuses.items → All IsRow l.minuses.items;
  each : (j x y : ℕ) → slice_get (pairs_of l.dag) j ≡ Some (x, y) → j < length l.pluses.items
      → AreFrozenBelow (graph_of l.dag) (cond (ltb j l.i) (l.b + 1) l.b) x y (slice_index_or l.pluses.items j []) (slice_index_or l.minuses.items j []);
}
