use Rattle.std.proofs.Common.{◌∙◌}
use Rattle.sp_money.proofs.Puts.{held_same, held_live}
use Rattle.sp_money.proofs.store.Store.set_live_at.Goals as goal

pub returns-clause-held : goal.returns-clause-held
returns-clause-held c =
    held_same _ c.put.new.self.slots.items _ c.put.new.self.starts.items _ c.put.new.self.locks _ c.put.new.self.accepted.items
    c.put.ensures.slots c.put.ensures.starts c.put.ensures.locks c.put.ensures.accepted
    ∙ held_live c.args.self.now.slots.items c.args.self.now.starts.items c.args.self.now.locks c.args.self.now.accepted.items c.args.place
    c.index-slot.result.now c.args.now c.index-slot.ensures
