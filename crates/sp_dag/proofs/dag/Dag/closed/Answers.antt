use Rattle.std.proofs.Common.{◌∙◌, ap, sym}
use Rattle.sp_dag.specs.Closed.{closed}
use Rattle.sp_dag.specs.Numbered.{Numbered}
use Rattle.sp_dag.specs.Shapes.{shape_of}
use Rattle.sp_dag.proofs.ClosedRows.{closed_shaped}
use Rattle.sp_dag.proofs.dag.Dag.closed.Goals as goal

pub returns : goal.returns
returns c =
    c.closed.ensures ∙ ap (λ (b : Numbered). closed (shape_of b.parents) c.args.n) c.self.view_is
    ∙ sym (closed_shaped c.args.self.now c.args.n)
