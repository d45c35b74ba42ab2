use Rattle.std.proofs.Common.{ap, ◌∙◌}
use Rattle.sp_engine.specs.Engine.{Ledger}
use Rattle.sp_engine.specs.Transactions.{balance_by_id}
use Rattle.sp_model.specs.declared.profile.Profile.{Profile}
use Rattle.sp_engine.proofs.BalancesByNumbers.{accepted_balance_by_id}
use Rattle.sp_engine.proofs.BalancesOwn.{balances_agree}
use Rattle.sp_engine.proofs.Facts.{accepting_of, engine_of, paying_of}
use Rattle.sp_engine.proofs.engine.Engine.balance.Goals as goal

pub returns-clause-value : goal.returns-clause-value
returns-clause-value c =
    let p = paying_of c.self.view_is c.self.invariant in
    c.balance.ensures c.self.inside.carriers.txs p.of
    ∙ accepted_balance_by_id (engine_of c.self.view_is c.self.invariant) (accepting_of c.self.view_is c.self.invariant) c.self.inside.purse.accepted c.args.lock.now p.same
    ∙ ap (λ (p : Profile). balance_by_id p c.args.self.now.kept c.args.lock.now) (ap (λ (l : Ledger). l.profile) c.self.view_is)

pub returns-clause-balance : goal.returns-clause-balance
returns-clause-balance c plain =
    returns-clause-value c
    ∙ balances_agree c.args.self.now.profile c.args.self.now.kept (engine_of c.self.view_is c.self.invariant).all_kept.apart plain c.args.lock.now
