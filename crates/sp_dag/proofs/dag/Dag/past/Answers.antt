use Rattle.std.proofs.Common.{◌∙◌, ap, sym}
use Rattle.sp_model.specs.Graph.{past}
use Rattle.sp_dag.specs.Numbered.{Numbered}
use Rattle.sp_dag.specs.Shapes.{shape_of}
use Rattle.sp_dag.proofs.Ranked.{past_shaped}
use Rattle.sp_dag.proofs.dag.Dag.past.Goals as goal

pub returns : goal.returns
returns c =
    c.past.ensures ∙ ap (λ (b : Numbered). past (shape_of b.parents) c.args.n) c.self.view_is ∙ sym (past_shaped c.args.self.now c.args.n)
