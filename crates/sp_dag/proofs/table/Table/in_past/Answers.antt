use Rattle.std.proofs.Common.{◌≡◌, ◌∙◌, ap, List, ℕ, ◌<◌, length, [], arith}
use Rattle.std.proofs.lemmas.List.{get_or_default}
use Rattle.sp_model.specs.Graph.{in_past}
use Rattle.sp_bits.specs.Places.{has}
use Rattle.sp_bits.specs.Members.{has-places_where}
use Rattle.sp_dag.specs.Shapes.{shape_of}
use Rattle.sp_dag.proofs.table.Table.in_past.Goals as goal

pub returns : goal.returns
returns c =
    let table = c.self.inside.parents.items in
    let view : length table ≡ length c.args.self.now = ap length c.self.view_is in
    let within : c.args.b < length table = omega (arith, view, c.requires.b_in) in
    let inside : c.args.b < length c.self.inside.pasts.items = omega (arith, within, c.self.invariant.0.pasts_long) in
    let low : c.args.a < 512 = omega (arith, view, c.requires.a_in, c.self.invariant.0.small) in
    c.test.ensures.value
    ∙ ap (λ (l : List ℕ). has l c.args.a)
    (c.index.ensures ∙ get_or_default c.self.inside.pasts.items c.args.b c.index.result.now [] inside ∙ c.self.invariant.0.pasts_right c.args.b within)
    ∙ has-places_where (λ a. in_past (shape_of table) a c.args.b) c.args.a low ∙ ap (λ (t : List (List ℕ)). in_past (shape_of t) c.args.a c.args.b) c.self.view_is
