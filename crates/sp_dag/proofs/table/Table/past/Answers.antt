use Rattle.std.proofs.Common.{◌≡◌, ◌∙◌, ap, List, ℕ, ◌<◌, length, [], arith}
use Rattle.std.proofs.lemmas.List.{get_or_default}
use Rattle.sp_model.specs.Graph.{past}
use Rattle.sp_dag.specs.Shapes.{shape_of}
use Rattle.sp_dag.proofs.Whole.{past_row}
use Rattle.sp_dag.proofs.table.Table.past.Goals as goal

pub returns : goal.returns
returns c =
    let table = c.self.inside.parents.items in
    let view : length table ≡ length c.args.self.now = ap length c.self.view_is in
    let within : c.args.number < length table = omega (arith, view, c.requires) in
    let inside : c.args.number < length c.self.inside.pasts.items = omega (arith, within, c.self.invariant.0.pasts_long) in
    c.index.ensures ∙ get_or_default c.self.inside.pasts.items c.args.number c.index.result.now [] inside
    ∙ c.self.invariant.0.pasts_right c.args.number within ∙ past_row table c.args.number c.self.invariant.0.order c.self.invariant.0.small within
    ∙ ap (λ (t : List (List ℕ)). past (shape_of t) c.args.number) c.self.view_is
