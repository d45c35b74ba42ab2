use Rattle.sp_engine.proofs.Decided.{none_decided, nothing_below, nothing_right}
use Rattle.sp_engine.proofs.first.first_accepted.Goals as goal

pub accept_all-requires-clause-right : goal.accept_all-requires-clause-right
accept_all-requires-clause-right c = nothing_right c.args.dag.now c.args.carriers.now c.new-accepted.result c.new-accepted.ensures

pub accept_all-requires-clause-first : goal.accept_all-requires-clause-first
accept_all-requires-clause-first c = nothing_below c.args.carriers.now c.new-accepted.result c.new-accepted.ensures

pub accept_all-requires-clause-told : goal.accept_all-requires-clause-told
accept_all-requires-clause-told c = λ x y lt below apart differ. absurd (none_decided c.new-accepted.result y c.new-accepted.ensures below)
