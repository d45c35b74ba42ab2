use Rattle.std.proofs.Common.{◌∙◌, arith, refl}
use Rattle.sp_dag.specs.Numbered.{graph_of}
use Rattle.sp_view.specs.Settled.{AreSides}
use Rattle.sp_view.proofs.Stepping.{step_new}
use Rattle.sp_view.proofs.TwoRows.{one_if}
use Rattle.sp_view.proofs.new_pairs.new_entry.Goals as goal

pub returns-clause-rows : goal.returns-clause-rows
returns-clause-rows c = λ x y at.
    let new : AreSides (graph_of c.args.set.now.dag.now) c.args.set.now.members.now x y c.new_rows-new.result.plus c.new_rows-new.result.minus = c.new_rows-new.ensures x y at in
    let stays = c.taken-minus.ensures.others c.taken-plus.result (omega (arith, c.taken-plus.ensures.counts c.taken-plus.result, one_if c.taken-plus.result c.taken-plus.result refl)) in
    record { plus_is = stays ∙ c.taken-plus.ensures.row ∙ new.plus_is; minus_is = c.taken-minus.ensures.row ∙ new.minus_is }

pub returns-clause-step : goal.returns-clause-step
returns-clause-step c =
    step_new c.args.pool.now c.taken-plus.new.pool c.taken-minus.new.pool c.taken-plus.result c.taken-minus.result c.taken-plus.ensures.fresh c.taken-minus.ensures.fresh c.taken-plus.ensures.counts
    c.taken-minus.ensures.counts c.taken-plus.ensures.others c.taken-minus.ensures.others c.taken-plus.ensures.spare c.taken-minus.ensures.spare c.taken-plus.ensures.live c.taken-minus.ensures.live
