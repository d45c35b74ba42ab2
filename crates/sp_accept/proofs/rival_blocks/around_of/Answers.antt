use Rattle.std.proofs.Common.{◌∙◌, ◌+◌, ◌&&◌, not, subst, sym}
use Rattle.sp_accept.specs.declared.rival_blocks.Around.{Around}
use Rattle.sp_accept.specs.Around.{is_unbeaten}
use Rattle.sp_accept.specs.Standing.{is_below}
use Rattle.sp_accept.proofs.Rowwise.{IsFilled, filled_here, filled_past}
use Rattle.sp_accept.proofs.rival_blocks.around_of.Goals as goal
use Rattle.sp_accept.proofs.rival_blocks.around_of.Goals.{then-test, else-test}

pub others-preserved : goal.others-preserved
others-preserved g c =
    let table = g.O.Order.table c.args.order.now in
    let some = c.args.rivals.now in
    let n = c.others.other in
    elim c.if-test.branch [
      | then-test w ↦ record {
        beaten = subst (λ (a : Around). IsFilled (λ v. not (is_unbeaten table c.args.block v)) some (n + 1) a.beaten) (sym w.around-is)
            (filled_here (λ v. not (is_unbeaten table c.args.block v)) some c.others.around.beaten w.put_one.new.around.beaten n (sym c.test.ensures.value ∙ w.if-test.true)
            c.others.invariant.beaten w.put_one.ensures.beaten);
        safe = subst (λ (a : Around). IsFilled (λ v. not (is_unbeaten table c.args.block v) && not (is_below table v c.args.block)) some (n + 1) a.safe) (sym w.around-is)
            (filled_here (λ v. not (is_unbeaten table c.args.block v) && not (is_below table v c.args.block)) some c.others.around.safe w.put_one.new.around.safe n
            (sym c.test.ensures.value ∙ w.if-test.true) c.others.invariant.safe w.put_one.ensures.safe);
      }
      | else-test w ↦ record {
        beaten = subst (λ (a : Around). IsFilled (λ v. not (is_unbeaten table c.args.block v)) some (n + 1) a.beaten) (sym w.around-is)
            (filled_past (λ v. not (is_unbeaten table c.args.block v)) some c.others.around.beaten n (sym c.test.ensures.value ∙ w.if-test.false) c.others.invariant.beaten);
        safe = subst (λ (a : Around). IsFilled (λ v. not (is_unbeaten table c.args.block v) && not (is_below table v c.args.block)) some (n + 1) a.safe) (sym w.around-is)
            (filled_past (λ v. not (is_unbeaten table c.args.block v) && not (is_below table v c.args.block)) some c.others.around.safe n
            (sym c.test.ensures.value ∙ w.if-test.false) c.others.invariant.safe);
      }
    ]
