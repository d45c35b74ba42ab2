use Rattle.std.proofs.Common.{◌∙◌, sym, ap}
use Rattle.std.specs.Prelude.{slice_get}
use Rattle.sp_dag.specs.Numbered.{Numbered}
use Rattle.sp_dag.proofs.Ids.{number_found}
use Rattle.sp_dag.proofs.dag.Dag.number.Goals as goal

pub returns-in-Some-clause-found : goal.returns-in-Some-clause-found
returns-in-Some-clause-found c =
    ap (λ (b : Numbered). slice_get b.ids c.in-Some.place) (sym c.self.view_is)
    ∙ number_found c.self.inside.ids.keys c.args.id.now c.in-Some.place (sym c.get_index_of.ensures.index ∙ c.in-Some.is)
