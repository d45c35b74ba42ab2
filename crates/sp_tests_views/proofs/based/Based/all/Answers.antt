use Rattle.std.proofs.Common.{sym, subst}
use Rattle.sp_view.specs.Views.{IsView, Viewed}
use Rattle.sp_view.proofs.Starting.{view_nothing}
use Rattle.sp_tests_views.proofs.based.Based.all.Goals as goal

pub loop-b-init : goal.loop-b-init
loop-b-init c =
    subst (λ (v : Viewed). IsView c.args.self.now.dag v c.new-pool.result) (sym c.empty-view.ensures)
    (view_nothing c.args.self.now.dag c.new-pool.result c.len-b-end.ensures.numbered.order)
