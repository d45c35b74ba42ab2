use Rattle.std.proofs.Common.{◌≡◌, Some, true, take}
use Rattle.std.specs.List.{list_all}
use Rattle.sp_tx.specs.declared.parts.Input.{Input}
use Rattle.sp_accept.specs.Pass.{has_source}
use Rattle.sp_accept.proofs.sources.are_named_accepted.Given as goal

abbrev pub invariant-inputs : goal.invariant-inputs
invariant-inputs g l = record {
  all : list_all (has_source (g.O.Order.table l.order) l.carriers l.flags l.block) (take l.input-index l.inputs) ≡ true;
  last : (i : Input) → l.last ≡ Some i.from.tx → has_source (g.O.Order.table l.order) l.carriers l.flags l.block i ≡ true;
}
