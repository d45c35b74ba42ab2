use Rattle.std.proofs.Common.{◌≡◌, true, take, map}
use Rattle.std.specs.List.{list_all}
use Rattle.sp_carry.specs.Sources.{has_source_in, source_or_none}
use Rattle.sp_carry.proofs.sources.sources_of.Given as goal

abbrev pub invariant-inputs : goal.invariant-inputs
invariant-inputs l = record {
  all : list_all (has_source_in l.table.txs.items l.tx) (take l.input-index l.inputs) ≡ true;
  list : l.list ≡ map (source_or_none l.table.txs.items l.tx) (take l.input-index l.inputs);
}
