use Rattle.std.proofs.Common.{◌≡◌, false, List, [], ◌∷◌, ◌++◌, subst, arith}
use Rattle.sp_money.specs.declared.slot.Slot.{Slot}
use Rattle.sp_money.specs.Totals.{AreTotals}
use Rattle.sp_money.proofs.Pushes.{held_push, kept_push}
use Rattle.sp_money.proofs.store.Store.add_output.Goals as goal

pub returns-clause-kept : goal.returns-clause-kept
returns-clause-kept c =
    let slot : Slot = record { name = c.args.name; live = false; lock = c.in_ok-lock.lock; amount = c.args.amount; spenders = c.args.spenders } in
    let items : c.push_reserved.new.self.items ≡ c.args.self.now.slots.items ++ slot ∷ [] =
    cc (c.push_reserved.ensures.items, c.lock_number.ensures.slots, c.reserve.ensures.items) in
    let totals : AreTotals c.args.self.now.slots.items c.lock_number.new.self.totals.items =
    subst (λ (xs : List Slot). AreTotals xs c.lock_number.new.self.totals.items) c.reserve.ensures.items c.lock_number.ensures.totals in
    rw (items, c.lock_number.ensures.accepted)
    (kept_push c.args.self.now.slots.items c.args.self.now.totals.items c.lock_number.new.self.totals.items c.args.self.now.locks c.lock_number.new.self.locks
    c.args.self.now.starts.items c.args.self.now.accepted.items c.args.lock c.in_ok-lock.lock c.args.amount c.args.spenders c.args.name
    c.requires.kept c.in_ok-lock.ensures.locks c.in_ok-lock.ensures.number c.requires.room totals c.lock_number.ensures.long (omega arith))

pub returns-clause-held : goal.returns-clause-held
returns-clause-held c =
    let slot : Slot = record { name = c.args.name; live = false; lock = c.in_ok-lock.lock; amount = c.args.amount; spenders = c.args.spenders } in
    let items : c.push_reserved.new.self.items ≡ c.args.self.now.slots.items ++ slot ∷ [] =
    cc (c.push_reserved.ensures.items, c.lock_number.ensures.slots, c.reserve.ensures.items) in
    rw (items, c.lock_number.ensures.accepted, c.lock_number.ensures.starts)
    (held_push c.args.self.now.slots.items c.args.self.now.totals.items c.lock_number.new.self.totals.items c.args.self.now.locks c.lock_number.new.self.locks
    c.args.self.now.starts.items c.args.self.now.accepted.items c.args.lock c.in_ok-lock.lock c.args.amount c.args.spenders c.args.name
    c.requires.kept c.in_ok-lock.ensures.locks c.in_ok-lock.ensures.number)
