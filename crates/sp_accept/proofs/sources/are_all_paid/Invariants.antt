use Rattle.std.proofs.Common.{◌≡◌, ℕ, Some, true, take}
use Rattle.std.specs.List.{list_all}
use Rattle.sp_accept.specs.Pass.{is_paid}
use Rattle.sp_accept.proofs.sources.are_all_paid.Given as goal

abbrev pub invariant-sources : goal.invariant-sources
invariant-sources g l = record {
  all : list_all (is_paid (g.O.Order.table l.order) l.carriers l.flags l.block) (take l.tx-index l.list) ≡ true;
  last : (n : ℕ) → l.last ≡ Some n → is_paid (g.O.Order.table l.order) l.carriers l.flags l.block n ≡ true;
}
