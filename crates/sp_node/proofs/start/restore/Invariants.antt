use Rattle.std.proofs.Common.{◌≡◌, ◌-◌, ◌≤◌, length}
use Rattle.sp_node.proofs.Restarted.{AreRestored}
use Rattle.sp_node.proofs.start.restore.Given as goal

abbrev pub invariant-each : goal.invariant-each
invariant-each l = record {
  profile : l.engine.profile ≡ l.fn.engine.profile;
  bits : l.engine.bits ≡ l.fn.engine.bits;
  place : l.i ≤ length l.blocks;
  restored : AreRestored l.fn.engine.bits l.fn.engine.kept l.fn.blocks l.i l.engine.kept;
}

abbrev pub decreases-each : goal.decreases-each
decreases-each l = length l.blocks - l.i
