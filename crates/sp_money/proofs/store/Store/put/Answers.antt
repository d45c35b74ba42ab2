use Rattle.std.proofs.Common.{◌<◌, ◌≤◌, ◌-◌, ◌+◌, ℕ, ◌^◌, ap, ◌∙◌, arith}
use Rattle.sp_money.specs.Totals.{left}
use Rattle.sp_money.proofs.Totals.{Changes, kept_put, slot_changes}
use Rattle.sp_money.proofs.store.Store.put.Goals as goal

pub overflow_add-index : goal.overflow_add-index
overflow_add-index c =
    let h : Changes c.args.self.now.slots.items c.args.self.now.totals.items c.args.place c.index-2.result.now c.index.result.now c.args.slot =
    slot_changes c.args.self.now.slots.items c.args.self.now.totals.items c.args.place c.index-2.result.now c.index.result.now c.args.slot
    c.requires.kept.totals c.requires.place c.index.ensures c.requires.lock c.requires.amount c.index-2.ensures in
    let high : c.index-2.result.now ≤ 2 ^ 96 = h.high in
    let small : c.left-after.result < 2 ^ 64 = c.left-after.type_inv in
    omega arith

pub returns-clause-kept : goal.returns-clause-kept
returns-clause-kept c =
    kept_put c.args.self.now.slots.items c.args.self.now.totals.items c.args.self.now.locks c.args.self.now.accepted.items
    c.args.place c.index-2.result.now (c.index-2.result.now - c.left-before.result + c.left-after.result) c.index.result.now c.args.slot
    c.requires.kept
    (slot_changes c.args.self.now.slots.items c.args.self.now.totals.items c.args.place c.index-2.result.now c.index.result.now c.args.slot
    c.requires.kept.totals c.requires.place c.index.ensures c.requires.lock c.requires.amount c.index-2.ensures)
    (ap (λ (k : ℕ). c.index-2.result.now - k + c.left-after.result) c.left-before.ensures
    ∙ ap (λ (k : ℕ). c.index-2.result.now - left c.index.result.now + k) c.left-after.ensures)
