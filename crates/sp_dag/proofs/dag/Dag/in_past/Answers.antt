use Rattle.std.proofs.Common.{◌∙◌, ap, sym}
use Rattle.sp_model.specs.Graph.{in_past}
use Rattle.sp_dag.specs.Numbered.{Numbered}
use Rattle.sp_dag.specs.Shapes.{shape_of}
use Rattle.sp_dag.proofs.Ranked.{in_past_shaped}
use Rattle.sp_dag.proofs.dag.Dag.in_past.Goals as goal

pub returns : goal.returns
returns c =
    c.in_past.ensures ∙ ap (λ (b : Numbered). in_past (shape_of b.parents) c.args.a c.args.b) c.self.view_is
    ∙ sym (in_past_shaped c.args.self.now c.args.a c.args.b)
