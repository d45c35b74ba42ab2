use Rattle.std.proofs.Common.{◌∙◌, sym, refl, [], get_or}
use Rattle.std.proofs.lemmas.List.{get_or_default}
use Rattle.sp_dag.proofs.Grown.{nowhere}
use Rattle.sp_dag.proofs.Reach.{reached_more}
use Rattle.sp_dag.proofs.rows.row_of.Goals as goal

pub loop-parent-init : goal.loop-parent-init
loop-parent-init c = c.empty-row.ensures ∙ sym nowhere

pub loop-parent-preserved : goal.loop-parent-preserved
loop-parent-preserved c =
    let pasts = c.args.pasts.now in
    let parents = c.args.parents.now in
    let i = c.loop-parent.parent-index in
    let p = get_or parents i 0 in
    reached_more pasts parents i p c.loop-parent.row c.or_with.new.self c.set.new.self c.index-pasts-parent.result c.loop-parent-test.true refl
    (c.index-pasts-parent.is ∙ get_or_default pasts p c.index-pasts-parent.result [] (c.requires.within i 0 c.loop-parent-test.true)) c.loop-parent.invariant
    c.or_with.ensures c.set.ensures
