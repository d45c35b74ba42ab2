use Rattle.std.proofs.Common.{◌∙◌, ◌-◌, Bool, List, sym, ap, length}
use Rattle.sp_carry.specs.Flags.{is_set}
use Rattle.sp_accept.specs.Pass.{is_carried_flag}
use Rattle.sp_accept.specs.Todo.{grown}
use Rattle.sp_accept.proofs.Begun.{begun}
use Rattle.sp_accept.proofs.Updated.{grown_same, right_carried}
use Rattle.sp_accept.proofs.update.decide_on_changes.Goals as goal

pub decide_or_turn_back-requires-clause-settled : goal.decide_or_turn_back-requires-clause-settled
decide_or_turn_back-requires-clause-settled g c =
    begun (g.O.Order.table c.args.order.now) c.args.carriers.now c.block_count-blocks.ensures.carried c.requires.of _ c.requires.right c.args.changed.now c.requires.told
    c.todo_of-todo.result c.todo_of-todo.ensures
    (grown c.make_room.new.flags.items (length c.args.carriers.now.rows))
    (λ e. grown_same c.make_room.new.flags.items (length c.args.carriers.now.rows - length c.make_room.new.flags.items) e
    ∙ ap (λ (l : List Bool). is_set l e) c.in_ok-make_room.ensures.same)

pub decide_or_turn_back-requires-clause-carried : goal.decide_or_turn_back-requires-clause-carried
decide_or_turn_back-requires-clause-carried g c = λ tx lt.
    ap (λ (l : List Bool). is_set l tx) (c.deref.ensures.value ∙ c.in_ok-make_room.ensures.same_txs)
    ∙ right_carried (g.O.Order.table c.args.order.now) c.args.carriers.now c.block_count-blocks.ensures.carried c.requires.of _ c.requires.right tx lt
    ∙ ap (λ (l : List Bool). is_carried_flag c.args.carriers.now l tx) (sym c.in_ok-make_room.ensures.same)
