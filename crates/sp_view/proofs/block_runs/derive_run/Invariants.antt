use Rattle.std.proofs.Common.{◌≡◌, length}
use Rattle.std.specs.Prelude.{vec_capacity}
use Rattle.sp_rows.specs.Pool.{Pool}
use Rattle.sp_view.specs.SoFar.{AreSoFar}
use Rattle.sp_view.proofs.block_runs.derive_run.Given as goal

abbrev pub invariant-pairs : goal.invariant-pairs
invariant-pairs l = record {
  long : length l.entries.items ≡ l.pair;
  capacity : vec_capacity l.entries ≡ vec_capacity l.fn.entries;
  so_far : (before : Pool) → AreSoFar l.growth.set.dag.now l.growth.before.now l.growth.set.members.now l.base before l.fn.pool l.fn.entries.items → AreSoFar l.growth.set.dag.now l.growth.before.now l.growth.set.members.now l.base before l.pool l.entries.items;
}
