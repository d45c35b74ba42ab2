use Rattle.std.proofs.Common.{◌<◌, ◌-◌, ap, length, List, subst, sym, take}
use Rattle.sp_block.specs.Block.{ReadBlock}
use Rattle.sp_pool.specs.Kept.{AreApart}
use Rattle.sp_pool.specs.Marks.{Marked}
use Rattle.sp_pool.proofs.Withdrawn.{AreKept-front, IsPool-anew}
use Rattle.sp_pool.proofs.pool.Pool.withdraw.Goals as goal

pub mark_ready-requires : goal.mark_ready-requires
mark_ready-requires c =
    let blocks = c.self.inside.entries.blocks in
    let some : 1 < length blocks = rw (c.self.view_is) c.requires in
    subst (λ (bs : List ReadBlock). AreApart bs) (sym (ap (λ (m : Marked). m.blocks) c.pop_unmarked.ensures)) (AreKept-front blocks c.self.invariant.kept some).apart

pub invariant_of-self : goal.invariant_of-self
invariant_of-self c =
    let blocks = c.self.inside.entries.blocks in
    let some : 1 < length blocks = rw (c.self.view_is) c.requires in
    IsPool-anew (take (length blocks - 1) blocks) c.pop_unmarked.new.self c.mark_ready.new.entries (AreKept-front blocks c.self.invariant.kept some) c.pop_unmarked.ensures
    c.mark_ready.ensures.blocks c.mark_ready.ensures.marks
