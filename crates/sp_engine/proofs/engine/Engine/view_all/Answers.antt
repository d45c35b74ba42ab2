use Rattle.std.proofs.Common.{subst}
use Rattle.sp_view.specs.Views.{IsView}
use Rattle.sp_engine.specs.Engine.{Ledger}
use Rattle.sp_engine.proofs.Voted.{is_view}
use Rattle.sp_engine.proofs.engine.Engine.view_all.Goals as goal

pub returns-clause-holds : goal.returns-clause-holds
returns-clause-holds c =
    let e = c.self.invariant.0 in
    subst (λ (l : Ledger). IsView l.numbered c.all.result.now l.votes.rows) c.self.view_is (is_view c.self.inside.dag c.self.inside.votes e.voted c.all.ensures.0 c.all.result.now c.all.ensures.1)
