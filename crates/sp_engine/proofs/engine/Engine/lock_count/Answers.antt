use Rattle.std.proofs.Common.{◌∙◌, ap, length}
use Rattle.sp_engine.proofs.BalancesByNumbers.{locks_are}
use Rattle.sp_engine.proofs.Facts.{accepting_of, engine_of, paying_of}
use Rattle.sp_engine.proofs.PaidLocks.{locks_once, unpaid}
use Rattle.sp_engine.proofs.engine.Engine.lock_count.Goals as goal

pub returns-clause-count : goal.returns-clause-count
returns-clause-count c =
    c.lock_count.ensures.value
    ∙ ap length ((paying_of c.self.view_is c.self.invariant).of.locks
    ∙ locks_are (engine_of c.self.view_is c.self.invariant) (accepting_of c.self.view_is c.self.invariant))

pub returns-clause-once : goal.returns-clause-once
returns-clause-once c = locks_once c.args.self.now.kept

pub returns-clause-paid : goal.returns-clause-paid
returns-clause-paid c lock none = unpaid c.args.self.now.profile c.args.self.now.kept (engine_of c.self.view_is c.self.invariant).all_kept.apart lock none
