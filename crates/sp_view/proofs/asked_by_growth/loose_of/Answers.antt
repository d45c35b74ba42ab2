use Rattle.std.proofs.Common.{◌≡◌}
use Rattle.sp_dag.specs.Numbered.{graph_of, pairs_of}
use Rattle.sp_view.proofs.Opening.{loose_is, none_loose}
use Rattle.sp_view.proofs.TwoRows.{pair_same}
use Rattle.sp_view.proofs.asked_by_growth.loose_of.Goals as goal

pub returns-then-is_none : goal.returns-then-is_none
returns-then-is_none c = λ x y at. none_loose (graph_of c.args.dag.now) x y c.args.voters.now (c.is_none.ensures.0 c.if-is_none.true)

pub returns : goal.returns
returns c = λ x y at.
    let same : (x ≡ c.pair-x.result.0) × (y ≡ c.pair-x.result.1) = pair_same (pairs_of c.args.dag.now) c.args.pair x y c.pair-x.result at c.pair-x.ensures.pair in
    rw (same.0, same.1)
    (loose_is (graph_of c.args.dag.now) c.pair-x.result.0 c.pair-x.result.1 c.args.voters.now c.bound_on.result c.without.new.self c.requires.small c.bound_on.ensures c.without.ensures)
