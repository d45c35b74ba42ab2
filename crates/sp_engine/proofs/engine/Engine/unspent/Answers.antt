use Rattle.std.proofs.Common.{ap, subst}
use Rattle.std.specs.Prelude.{IfOk}
use Rattle.std.specs.List.Sorted.{IsPermutation}
use Rattle.std.proofs.lemmas.List.Sorted.{IsPermutation-trans}
use Rattle.std.proofs.lemmas.Result.{IfOk-weaker}
use Rattle.sp_model.specs.declared.profile.Profile.{Profile}
use Rattle.sp_pool.specs.Kept.{present}
use Rattle.sp_carry.specs.Ledger.{accepted_carriers}
use Rattle.sp_carry.specs.Money.{accepted_txs}
use Rattle.sp_carry.proofs.Grants.{firsts_ids}
use Rattle.sp_money.specs.Accepted.{accepted_in}
use Rattle.sp_money.specs.Names.{names_under}
use Rattle.sp_engine.specs.Engine.{Ledger}
use Rattle.sp_engine.specs.Transactions.{ledger_by_id, ledger_of, names_by_id}
use Rattle.sp_engine.proofs.BalancesByNumbers.{accepted_back, accepted_into, accepted_once}
use Rattle.sp_engine.proofs.Facts.{accepting_of, engine_of, paying_of}
use Rattle.sp_engine.proofs.Leaving.{names_own, names_permuted}
use Rattle.sp_engine.proofs.engine.Engine.unspent.Goals as goal

pub returns-clause-names : goal.returns-clause-names
returns-clause-names c =
    let e = engine_of c.self.view_is c.self.invariant in
    let h = accepting_of c.self.view_is c.self.invariant in
    let p = paying_of c.self.view_is c.self.invariant in
    let profile = c.self.inside.dag.profile in
    let kept = c.args.self.now.kept in
    let txs = c.self.inside.carriers.txs in
    let flags = c.self.inside.purse.accepted in
    subst (λ (p : Profile). IfOk c.unspent.result (λ names. IsPermutation (names_by_id p kept c.args.lock.now) names.items))
    (ap (λ (l : Ledger). l.profile) c.self.view_is)
    (IfOk-weaker c.unspent.result _ _
    (λ names given. IsPermutation-trans (names_by_id profile kept c.args.lock.now) (names_under (accepted_in txs flags) c.args.lock.now) names.items
    (names_permuted (accepted_txs (ledger_by_id profile kept) (present kept)) (accepted_in txs flags) c.args.lock.now
    (firsts_ids (accepted_carriers (ledger_by_id profile kept) (present kept))) (accepted_once e h flags) (accepted_back e h flags p.same) (accepted_into e h flags p.same))
    (given txs p.of)) c.unspent.ensures.names)

pub returns-clause-own : goal.returns-clause-own
returns-clause-own c plain =
    let e = engine_of c.self.view_is c.self.invariant in
    let profile = c.args.self.now.profile in
    let kept = c.args.self.now.kept in
    IfOk-weaker c.unspent.result _ _
    (λ names given. IsPermutation-trans (names_under (accepted_txs (ledger_of profile kept) (present kept)) c.args.lock.now) (names_by_id profile kept c.args.lock.now) names.items
    (names_own profile kept e.all_kept.apart plain c.args.lock.now) given) (returns-clause-names c)
