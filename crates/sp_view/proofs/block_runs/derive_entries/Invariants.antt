use Rattle.std.proofs.Common.{◌≡◌, length}
use Rattle.std.specs.Prelude.{vec_capacity}
use Rattle.sp_view.specs.SoFar.{AreBelow, AreSoFar}
use Rattle.sp_view.proofs.block_runs.derive_entries.Given as goal

abbrev pub invariant-runs : goal.invariant-runs
invariant-runs l = record {
  capacity : vec_capacity l.entries ≡ vec_capacity l.fn.entries;
  so_far : AreSoFar l.growth.set.dag.now l.growth.before.now l.growth.set.members.now l.base l.fn.pool l.pool l.entries.items;
  below : AreBelow l.growth.set.dag.now l.growth.set.members.now l.end l.block (length l.entries.items);
}
