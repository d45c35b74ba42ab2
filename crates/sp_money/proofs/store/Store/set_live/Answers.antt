use Rattle.std.proofs.Common.{◌≡◌, length, ap, sym, arith}
use Rattle.sp_money.specs.Kept.{held_of}
use Rattle.sp_money.proofs.Loops.{lives_next}
use Rattle.sp_money.proofs.Marks.{marked_zero}
use Rattle.sp_money.proofs.Puts.{same_count, with_lives}
use Rattle.sp_money.proofs.store.Store.set_live.Goals as goal

pub outputs-init : goal.outputs-init
outputs-init c =
    (c.requires.kept, ap (with_lives (held_of c.args.self.now)) (sym (marked_zero (held_of c.args.self.now).live c.args.start c.args.now)))

pub set_live_at-requires-clause-place : goal.set_live_at-requires-clause-place
set_live_at-requires-clause-place c =
    let same : length c.outputs.self.slots.items ≡ length c.args.self.now.slots.items = same_count c.outputs.self c.args.self.now _ c.outputs.invariant.1 in
    omega arith

pub outputs-preserved : goal.outputs-preserved
outputs-preserved c = (
  c.set_live_at.ensures.kept,
  lives_next (held_of c.args.self.now) (held_of c.outputs.self) (held_of c.set_live_at.new.self) c.args.start c.outputs.index c.args.now
      c.outputs.invariant.1 c.set_live_at.ensures.held,
)
