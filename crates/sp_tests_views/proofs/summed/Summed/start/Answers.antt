use Rattle.std.proofs.Common.{[], sym, subst}
use Rattle.std.specs.Prelude.{slice_get}
use Rattle.std.proofs.lemmas.Bool.{false≢true}
use Rattle.sp_dag.specs.Numbered.{graph_of}
use Rattle.sp_view.specs.Summed.{AreRight}
use Rattle.sp_view.specs.Views.{IsView, Viewed}
use Rattle.sp_view.proofs.KeptSums.{inside_sum}
use Rattle.sp_view.proofs.Starting.{view_nothing}
use Rattle.sp_tests_views.proofs.summed.Summed.start.Goals as goal

pub returns : goal.returns
returns c = record {
  is = subst (λ (v : Viewed). IsView c.args.based.now.dag v c.new.result) (sym c.empty.ensures)
      (view_nothing c.args.based.now.dag c.new.result c.len-blocks.ensures.numbered.order);
  right = subst (λ (v : Viewed). AreRight c.args.based.now.dag v.members c.grow.new.self) (sym c.empty.ensures)
      (λ i x y at. inside_sum (graph_of c.args.based.now.dag) [] x y (slice_get c.grow.new.self i) (λ inside. absurd (false≢true inside)));
  long = c.in_ok-grow.ensures.long;
}
