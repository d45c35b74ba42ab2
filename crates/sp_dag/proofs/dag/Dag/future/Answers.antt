use Rattle.std.proofs.Common.{◌∙◌, ap, sym}
use Rattle.sp_model.specs.Graph.{future, keys}
use Rattle.sp_dag.specs.Numbered.{Numbered}
use Rattle.sp_dag.specs.Shapes.{shape_of}
use Rattle.sp_dag.proofs.Ranked.{future_shaped}
use Rattle.sp_dag.proofs.dag.Dag.future.Goals as goal

pub returns : goal.returns
returns c =
    c.future.ensures ∙ ap (λ (b : Numbered). future (shape_of b.parents) (keys (shape_of b.parents)) c.args.n) c.self.view_is
    ∙ sym (future_shaped c.args.self.now c.args.n)
