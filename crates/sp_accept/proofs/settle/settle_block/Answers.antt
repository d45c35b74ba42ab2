use Rattle.std.proofs.Common.{◌≡◌, ◌<◌, ◌≤◌, ◌||◌, ◌∙◌, ◌+◌, ℕ, Bool, ap, sym, subst, arith}
use Rattle.sp_carry.specs.RivalBlocks.{rival_blocks}
use Rattle.sp_accept.specs.Rows.{row_at}
use Rattle.sp_accept.specs.Todo.{AreSettledBut}
use Rattle.sp_accept.proofs.Due.{block_goes_on, left_from}
use Rattle.sp_accept.proofs.Toggled.{turned_on}
use Rattle.sp_accept.proofs.Witnesses.{rows_decide}
use Rattle.sp_accept.proofs.settle.settle_block.Goals as goal
use Rattle.sp_accept.proofs.settle.settle_block.Goals.{then-branch, else-branch}

pub returns-in_err-settle_one-clause-turned : goal.returns-in_err-settle_one-clause-turned
returns-in_err-settle_one-clause-turned g c =
    turned_on c.args.flags.now.items c.carriers.flags.items c.settle_one.new.flags.items c.args.turned.now.items c.carriers.turned.items c.settle_one.new.turned.items c.carriers.invariant.turned
    c.settle_one.ensures.turned

pub settle_one-requires-clause-around : goal.settle_one-requires-clause-around
settle_one-requires-clause-around g c =
    let table = g.O.Order.table c.args.order.now in
    let k = c.args.carriers.now in
    let tx : ℕ = (row_at k.rows c.carriers.c).tx in
    let low : c.args.block ≤ (row_at k.rows c.carriers.c).block = c.first_from-first.ensures.from c.carriers.c c.carriers.auto.c (omega (arith, c.carriers-test.true, c.first_from-end.ensures.within)) in
    let high : (row_at k.rows c.carriers.c).block < c.args.block + 1 = c.first_from-end.ensures.below c.carriers.c c.carriers-test.true in
    let here : c.args.block ≡ (row_at k.rows c.carriers.c).block = omega (arith, low, high) in
    rows_decide table c.args.block (row_at k.rows c.carriers.c).block c.witness_of-witness.result (rival_blocks k tx) c.rivals_of-rivals.result c.around_of-around.result.beaten
    c.around_of-around.result.safe here c.witness_of-witness.ensures.unbeaten
    (λ off w there. c.rivals_of-rivals.ensures c.carriers.c w c.carriers.auto.c c.carriers-test.true off there) c.around_of-around.ensures.around c.around_of-around.ensures.out

pub carriers-preserved : goal.carriers-preserved
carriers-preserved g c =
    let table = g.O.Order.table c.args.order.now in
    let k = c.args.carriers.now in
    let one : Bool = c.in_ok-settle_one.field-0 in
    let low : c.args.block ≤ (row_at k.rows c.carriers.c).block = c.first_from-first.ensures.from c.carriers.c c.carriers.auto.c (omega (arith, c.carriers-test.true, c.first_from-end.ensures.within)) in
    let high : (row_at k.rows c.carriers.c).block < c.args.block + 1 = c.first_from-end.ensures.below c.carriers.c c.carriers-test.true in
    let any_is : (one || c.carriers.any) ≡ c.if-branch.any =
    elim c.if-branch.branch [
      | then-branch w ↦ ap (λ (b : Bool). b || c.carriers.any) w.if-branch.true ∙ sym w.any-is
      | else-branch w ↦ ap (λ (b : Bool). b || c.carriers.any) w.if-branch.false ∙ sym w.any-is
    ] in
    record {
      settled =
          subst (λ (b : Bool). AreSettledBut table k c.settle_one.new.flags.items (left_from table k c.args.todo.now c.args.block (c.carriers.c + 1) b)) any_is
          (block_goes_on table k c.args.todo.now c.args.block c.carriers.flags.items c.settle_one.new.flags.items c.carriers.c c.carriers.any one (omega (arith, low, high))
          c.in_ok-settle_one.ensures.own c.in_ok-settle_one.ensures.others c.carriers.invariant.settled);
      turned = turned_on c.args.flags.now.items c.carriers.flags.items c.settle_one.new.flags.items c.args.turned.now.items c.carriers.turned.items c.settle_one.new.turned.items c.carriers.invariant.turned
          c.in_ok-settle_one.ensures.turned;
      kept = c.in_ok-settle_one.ensures.kept;
    }
