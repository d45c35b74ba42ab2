use Rattle.std.proofs.Common.{◌∙◌, sym, ap}
use Rattle.sp_accept.specs.States.{state_of_flag, state_of_number}
use Rattle.sp_carry.specs.Ledger.{state}
use Rattle.sp_engine.specs.Engine.{Ledger}
use Rattle.sp_engine.specs.Transactions.{ledger_of, state_of}
use Rattle.sp_model.specs.declared.profile.Profile.{Profile}
use Rattle.sp_pool.specs.Kept.{present}
use Rattle.sp_engine.proofs.Facts.{accepting_of, engine_of}
use Rattle.sp_engine.proofs.StatesByNumbers.{absent_is, plain_state_is, state_is}
use Rattle.sp_engine.proofs.engine.Engine.tx_state.Goals as goal

pub returns-in-None-clause-absent : goal.returns-in-None-clause-absent
returns-in-None-clause-absent c =
    absent_is (engine_of c.self.view_is c.self.invariant) (accepting_of c.self.view_is c.self.invariant) c.args.id.now _
    (ap (state_of_number c.self.inside.accepted.txs) (sym c.in-None.is ∙ c.tx_of.ensures.value))

pub returns-in-None-clause-value : goal.returns-in-None-clause-value
returns-in-None-clause-value c =
    state_is (engine_of c.self.view_is c.self.invariant) (accepting_of c.self.view_is c.self.invariant) c.args.id.now _
    (ap (state_of_number c.self.inside.accepted.txs) (sym c.in-None.is ∙ c.tx_of.ensures.value))
    ∙ ap (λ (p : Profile). state_of p c.args.self.now.kept c.args.id.now) (ap (λ (l : Ledger). l.profile) c.self.view_is)

pub returns-in-None-clause-state : goal.returns-in-None-clause-state
returns-in-None-clause-state c = λ plain.
    plain_state_is (engine_of c.self.view_is c.self.invariant) (accepting_of c.self.view_is c.self.invariant) c.args.id.now _
    (ap (state_of_number c.self.inside.accepted.txs) (sym c.in-None.is ∙ c.tx_of.ensures.value)) plain
    ∙ ap (λ (p : Profile). state (ledger_of p c.args.self.now.kept) (present c.args.self.now.kept) c.args.id.now) (ap (λ (l : Ledger). l.profile) c.self.view_is)

pub returns-then-is_accepted-clause-absent : goal.returns-then-is_accepted-clause-absent
returns-then-is_accepted-clause-absent c =
    absent_is (engine_of c.self.view_is c.self.invariant) (accepting_of c.self.view_is c.self.invariant) c.args.id.now _
    (ap state_of_flag (sym c.if-is_accepted.true ∙ c.is_accepted.ensures) ∙ ap (state_of_number c.self.inside.accepted.txs) (sym c.in-Some.is ∙ c.tx_of.ensures.value))

pub returns-then-is_accepted-clause-value : goal.returns-then-is_accepted-clause-value
returns-then-is_accepted-clause-value c =
    state_is (engine_of c.self.view_is c.self.invariant) (accepting_of c.self.view_is c.self.invariant) c.args.id.now _
    (ap state_of_flag (sym c.if-is_accepted.true ∙ c.is_accepted.ensures) ∙ ap (state_of_number c.self.inside.accepted.txs) (sym c.in-Some.is ∙ c.tx_of.ensures.value))
    ∙ ap (λ (p : Profile). state_of p c.args.self.now.kept c.args.id.now) (ap (λ (l : Ledger). l.profile) c.self.view_is)

pub returns-then-is_accepted-clause-state : goal.returns-then-is_accepted-clause-state
returns-then-is_accepted-clause-state c = λ plain.
    plain_state_is (engine_of c.self.view_is c.self.invariant) (accepting_of c.self.view_is c.self.invariant) c.args.id.now _
    (ap state_of_flag (sym c.if-is_accepted.true ∙ c.is_accepted.ensures) ∙ ap (state_of_number c.self.inside.accepted.txs) (sym c.in-Some.is ∙ c.tx_of.ensures.value)) plain
    ∙ ap (λ (p : Profile). state (ledger_of p c.args.self.now.kept) (present c.args.self.now.kept) c.args.id.now) (ap (λ (l : Ledger). l.profile) c.self.view_is)

pub returns-else-is_accepted-clause-absent : goal.returns-else-is_accepted-clause-absent
returns-else-is_accepted-clause-absent c =
    absent_is (engine_of c.self.view_is c.self.invariant) (accepting_of c.self.view_is c.self.invariant) c.args.id.now _
    (ap state_of_flag (sym c.if-is_accepted.false ∙ c.is_accepted.ensures) ∙ ap (state_of_number c.self.inside.accepted.txs) (sym c.in-Some.is ∙ c.tx_of.ensures.value))

pub returns-else-is_accepted-clause-value : goal.returns-else-is_accepted-clause-value
returns-else-is_accepted-clause-value c =
    state_is (engine_of c.self.view_is c.self.invariant) (accepting_of c.self.view_is c.self.invariant) c.args.id.now _
    (ap state_of_flag (sym c.if-is_accepted.false ∙ c.is_accepted.ensures) ∙ ap (state_of_number c.self.inside.accepted.txs) (sym c.in-Some.is ∙ c.tx_of.ensures.value))
    ∙ ap (λ (p : Profile). state_of p c.args.self.now.kept c.args.id.now) (ap (λ (l : Ledger). l.profile) c.self.view_is)

pub returns-else-is_accepted-clause-state : goal.returns-else-is_accepted-clause-state
returns-else-is_accepted-clause-state c = λ plain.
    plain_state_is (engine_of c.self.view_is c.self.invariant) (accepting_of c.self.view_is c.self.invariant) c.args.id.now _
    (ap state_of_flag (sym c.if-is_accepted.false ∙ c.is_accepted.ensures) ∙ ap (state_of_number c.self.inside.accepted.txs) (sym c.in-Some.is ∙ c.tx_of.ensures.value)) plain
    ∙ ap (λ (p : Profile). state (ledger_of p c.args.self.now.kept) (present c.args.self.now.kept) c.args.id.now) (ap (λ (l : Ledger). l.profile) c.self.view_is)
