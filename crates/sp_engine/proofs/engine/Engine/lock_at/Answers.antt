use Rattle.std.proofs.Common.{◌∙◌, ap, arith, length, sym}
use Rattle.std.specs.Prelude.{slice_get}
use Rattle.sp_engine.specs.Engine.{Ledger}
use Rattle.sp_engine.specs.Transactions.{balance_by_id}
use Rattle.sp_model.specs.declared.profile.Profile.{Profile}
use Rattle.sp_engine.proofs.BalancesByNumbers.{accepted_balance_by_id, locks_are}
use Rattle.sp_engine.proofs.BalancesOwn.{balances_agree}
use Rattle.sp_engine.proofs.Facts.{accepting_of, engine_of, paying_of}
use Rattle.sp_engine.proofs.engine.Engine.lock_at.Goals as goal

pub lock_at-requires : goal.lock_at-requires
lock_at-requires c =
    let same = (paying_of c.self.view_is c.self.invariant).of.locks
    ∙ locks_are (engine_of c.self.view_is c.self.invariant) (accepting_of c.self.view_is c.self.invariant) in
    omega (arith, ap length same, c.requires.within)

pub returns-clause-lock : goal.returns-clause-lock
returns-clause-lock c =
    let same = (paying_of c.self.view_is c.self.invariant).of.locks
    ∙ locks_are (engine_of c.self.view_is c.self.invariant) (accepting_of c.self.view_is c.self.invariant) in
    ap (λ locks. slice_get locks c.args.i) (sym same) ∙ c.lock_at.ensures.lock

pub returns-clause-value : goal.returns-clause-value
returns-clause-value c =
    let p = paying_of c.self.view_is c.self.invariant in
    c.lock_at.ensures.balance c.self.inside.carriers.txs p.of
    ∙ accepted_balance_by_id (engine_of c.self.view_is c.self.invariant) (accepting_of c.self.view_is c.self.invariant)
    c.self.inside.purse.accepted c.lock_at.result.0 p.same
    ∙ ap (λ (p : Profile). balance_by_id p c.args.self.now.kept c.lock_at.result.0) (ap (λ (l : Ledger). l.profile) c.self.view_is)

pub returns-clause-balance : goal.returns-clause-balance
returns-clause-balance c plain =
    returns-clause-value c
    ∙ balances_agree c.args.self.now.profile c.args.self.now.kept (engine_of c.self.view_is c.self.invariant).all_kept.apart plain c.lock_at.result.0
