use Rattle.std.proofs.Common.{List, [], sym, subst, ◌∙◌}
use Rattle.std.specs.Prelude.{IsPermutation}
use Rattle.std.proofs.lemmas.List.Sorted.{IsPermutation-refl}
use Rattle.sp_ids.specs.declared.outpoint.Outpoint.{Outpoint}
use Rattle.sp_tx.specs.Parts.{Transaction}
use Rattle.sp_money.specs.Accepted.{accepted_in}
use Rattle.sp_money.specs.Held.{Held, IsOf}
use Rattle.sp_money.specs.Names.{names_under}
use Rattle.sp_money.proofs.Balances.{known_names, no_names}
use Rattle.sp_money.proofs.purse.Purse.unspent.Goals as goal

pub returns-in_ok-sort-in-Some-clause-names : goal.returns-in_ok-sort-in-Some-clause-names
returns-in_ok-sort-in-Some-clause-names c =
    let s = c.self.inside.store in
    subst (λ (h : Held). (txs : List Transaction) → IsOf txs h → IsPermutation (names_under (accepted_in txs h.accepted) c.args.lock.now) c.sort.new.self.items) c.self.view_is
    (λ txs of. subst (λ (names : List Outpoint). IsPermutation names c.sort.new.self.items) (c.in_ok-names-in-Some.ensures
    ∙ known_names s.slots.items s.totals.items s.starts.items s.locks s.accepted.items c.in-Some.number c.args.lock.now
    c.self.invariant.0 c.number_of.ensures.once (sym c.number_of.ensures.value ∙ c.in-Some.is) txs of) c.sort.ensures.permutation)

pub returns-in-None-clause-names : goal.returns-in-None-clause-names
returns-in-None-clause-names c =
    let s = c.self.inside.store in
    subst (λ (h : Held). (txs : List Transaction) → IsOf txs h → IsPermutation (names_under (accepted_in txs h.accepted) c.args.lock.now) c.new.result.items) c.self.view_is
    (λ txs of. rw c.new.ensures.items (subst (λ (names : List Outpoint). IsPermutation names [])
    (no_names s.slots.items s.totals.items s.starts.items s.locks s.accepted.items c.args.lock.now
    c.self.invariant.0 (sym c.number_of.ensures.value ∙ c.in-None.is) txs of) (IsPermutation-refl [])))
