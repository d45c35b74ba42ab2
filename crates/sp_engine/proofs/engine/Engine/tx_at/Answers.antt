use Rattle.std.proofs.Common.{◌∙◌, ap, arith, sym}
use Rattle.sp_pool.specs.Kept.{present}
use Rattle.sp_carry.specs.Carried.{tx_at}
use Rattle.sp_carry.specs.Ledger.{is_accepted}
use Rattle.sp_engine.specs.Transactions.{ledger_by_id, ledger_of}
use Rattle.sp_engine.specs.Engine.{Ledger}
use Rattle.sp_tx.specs.Spending.{id_of}
use Rattle.sp_model.specs.declared.profile.Profile.{Profile}
use Rattle.sp_engine.proofs.Facts.{accepting_of, engine_of}
use Rattle.sp_engine.proofs.StatesByNumbers.{accepted_is, plain_accepted_is, txs_counted}
use Rattle.sp_engine.proofs.engine.Engine.tx_at.Goals as goal

pub returns-clause-value : goal.returns-clause-value
returns-clause-value c =
    let e = engine_of c.self.view_is c.self.invariant in
    let h = accepting_of c.self.view_is c.self.invariant in
    c.is_accepted.ensures ∙ accepted_is e h c.args.i (omega (arith, txs_counted e h, c.requires.within))
    ∙ ap (λ (p : Profile). is_accepted (ledger_by_id p c.args.self.now.kept) (present c.args.self.now.kept) (id_of (tx_at c.self.inside.carriers c.args.i))) (ap (λ (l : Ledger). l.profile) c.self.view_is)
    ∙ ap (is_accepted (ledger_by_id c.args.self.now.profile c.args.self.now.kept) (present c.args.self.now.kept)) (sym c.tx_id.ensures)

pub returns-clause-accepted : goal.returns-clause-accepted
returns-clause-accepted c plain =
    let e = engine_of c.self.view_is c.self.invariant in
    let h = accepting_of c.self.view_is c.self.invariant in
    c.is_accepted.ensures ∙ plain_accepted_is e h c.args.i (omega (arith, txs_counted e h, c.requires.within)) plain
    ∙ ap (λ (p : Profile). is_accepted (ledger_of p c.args.self.now.kept) (present c.args.self.now.kept) (id_of (tx_at c.self.inside.carriers c.args.i))) (ap (λ (l : Ledger). l.profile) c.self.view_is)
    ∙ ap (is_accepted (ledger_of c.args.self.now.profile c.args.self.now.kept) (present c.args.self.now.kept)) (sym c.tx_id.ensures)
