use Rattle.std.proofs.Common.{ℕ, ap, sym, ◌∙◌}
use Rattle.sp_money.specs.Places.{shifted}
use Rattle.sp_money.specs.Kept.{held_of}
use Rattle.sp_money.proofs.Puts.{held_same, held_spenders, spenders_at, spenders_set}
use Rattle.sp_money.proofs.store.Store.count_at.Goals as goal

pub returns-clause-held : goal.returns-clause-held
returns-clause-held c =
    held_same _ c.put.new.self.slots.items _ c.put.new.self.starts.items _ c.put.new.self.locks _ c.put.new.self.accepted.items
    c.put.ensures.slots c.put.ensures.starts c.put.ensures.locks c.put.ensures.accepted
    ∙ held_spenders c.args.self.now.slots.items c.args.self.now.starts.items c.args.self.now.locks c.args.self.now.accepted.items c.args.place
    c.index-slot.result.now c.shifted.result c.index-slot.ensures
    ∙ ap (λ (n : ℕ). spenders_set (held_of c.args.self.now) c.args.place n)
    (c.shifted.ensures ∙ ap (shifted c.args.now) (sym (spenders_at c.args.self.now.slots.items c.args.place c.index-slot.result.now c.requires.place c.index-slot.ensures)))
