use Rattle.std.proofs.Common.{◌∙◌, ap, sym, length}
use Rattle.sp_dag.specs.Numbered.{Numbered}
use Rattle.sp_dag.specs.Shapes.{pairs_in}
use Rattle.sp_dag.proofs.Ranked.{pairs_shaped}
use Rattle.sp_dag.proofs.dag.Dag.pair_count.Goals as goal

pub returns-clause-value : goal.returns-clause-value
returns-clause-value c =
    c.pair_count.ensures.value ∙ ap (λ (b : Numbered). length (pairs_in b.parents)) c.self.view_is ∙ sym (ap length (pairs_shaped c.args.self.now))
