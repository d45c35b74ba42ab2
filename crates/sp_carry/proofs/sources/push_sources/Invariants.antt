use Rattle.std.proofs.Common.{◌≤◌, length}
use Rattle.std.specs.Prelude.{vec_capacity}
use Rattle.sp_carry.specs.Sources.{AreSourced}
use Rattle.sp_carry.proofs.sources.push_sources.Given as goal

abbrev pub invariant-txs : goal.invariant-txs
invariant-txs l = record {
  room : length l.table.txs.items ≤ vec_capacity l.sources;
  pushed : AreSourced l.table.txs.items l.initial.sources.items l.sources.items l.tx;
}
