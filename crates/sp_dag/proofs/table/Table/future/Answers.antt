use Rattle.std.proofs.Common.{◌≡◌, ◌∙◌, ap, List, ℕ, ◌<◌, length, [], arith}
use Rattle.std.proofs.lemmas.List.{get_or_default}
use Rattle.sp_model.specs.Graph.{keys, future}
use Rattle.sp_dag.specs.Shapes.{shape_of}
use Rattle.sp_dag.proofs.Whole.{future_row}
use Rattle.sp_dag.proofs.table.Table.future.Goals as goal

pub returns : goal.returns
returns c =
    let table = c.self.inside.parents.items in
    let view : length table ≡ length c.args.self.now = ap length c.self.view_is in
    let within : c.args.number < length table = omega (arith, view, c.requires) in
    let inside : c.args.number < length c.self.inside.futures.items = omega (arith, within, c.self.invariant.0.futures_long) in
    c.index.ensures ∙ get_or_default c.self.inside.futures.items c.args.number c.index.result.now [] inside
    ∙ c.self.invariant.0.futures_right c.args.number within ∙ future_row table c.args.number c.self.invariant.0.small
    ∙ ap (λ (t : List (List ℕ)). future (shape_of t) (keys (shape_of t)) c.args.number) c.self.view_is
