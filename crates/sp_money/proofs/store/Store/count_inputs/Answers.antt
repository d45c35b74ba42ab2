use Rattle.std.proofs.Common.{ap, sym, arith}
use Rattle.sp_money.specs.Kept.{held_of}
use Rattle.sp_money.proofs.Counts.{none_before}
use Rattle.sp_money.proofs.Loops.{counts_next, room_next}
use Rattle.sp_money.proofs.Puts.{as_many, with_counts}
use Rattle.sp_money.proofs.store.Store.count_inputs.Goals as goal

pub inputs-init : goal.inputs-init
inputs-init c = (
  c.requires.kept,
  ap (with_counts (held_of c.args.self.now))
      (sym (none_before c.args.now (held_of c.args.self.now).coins (held_of c.args.self.now).spenders (as_many c.args.self.now.slots.items c.args.self.now.locks))),
)

pub count_input-requires-clause-room : goal.count_input-requires-clause-room
count_input-requires-clause-room c =
    room_next (held_of c.args.self.now) (held_of c.inputs.self) (held_of c.inputs.self) c.args.now c.args.inputs.now c.inputs.input-index c.input-item.result
    c.inputs.invariant.1 (omega arith) c.input-item.is c.requires.apart (as_many c.args.self.now.slots.items c.args.self.now.locks) c.requires.room

pub inputs-preserved : goal.inputs-preserved
inputs-preserved c = (
  c.count_input.ensures.kept,
  counts_next (held_of c.args.self.now) (held_of c.inputs.self) (held_of c.count_input.new.self) c.args.now c.args.inputs.now c.inputs.input-index
      c.input-item.result c.inputs.invariant.1 (omega arith) c.input-item.is c.requires.apart c.count_input.ensures.held,
)
