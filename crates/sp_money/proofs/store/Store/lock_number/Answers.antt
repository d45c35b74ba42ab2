use Rattle.std.proofs.Common.{ℕ, List, [], ◌∷◌, ◌++◌, sym, ap, ◌∙◌}
use Rattle.sp_money.proofs.Numbered.{found, known_id, new_id}
use Rattle.sp_money.proofs.Totals.{totals_more}
use Rattle.sp_money.proofs.store.Store.lock_number.Goals as goal

pub returns-in-Some-clause-number : goal.returns-in-Some-clause-number
returns-in-Some-clause-number c = found c.args.self.now.locks c.args.lock c.in-Some.number (sym c.number_of.ensures.value ∙ c.in-Some.is)

pub returns-in-Some-clause-locks : goal.returns-in-Some-clause-locks
returns-in-Some-clause-locks c = sym (known_id c.args.self.now.locks c.args.lock c.in-Some.number (sym c.number_of.ensures.value ∙ c.in-Some.is))

pub returns-in_ok-number-in-None-clause-locks : goal.returns-in_ok-number-in-None-clause-locks
returns-in_ok-number-in-None-clause-locks c =
    c.in_ok-number-in-None.ensures.ok ∙ sym (new_id c.args.self.now.locks c.args.lock (sym c.number_of.ensures.value ∙ c.in-None.is))

pub returns-in_ok-number-in-None-clause-totals : goal.returns-in_ok-number-in-None-clause-totals
returns-in_ok-number-in-None-clause-totals c =
    let items = c.push_reserved.ensures.items ∙ ap (λ (xs : List ℕ). xs ++ 0 ∷ []) c.reserve.ensures.items in
    rw items (totals_more c.args.self.now.slots.items c.args.self.now.totals.items c.requires.totals)
