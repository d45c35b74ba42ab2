use Rattle.std.proofs.Common.{◌≡◌, ◌∙◌, ap, sym, refl, List, ℕ, ◌<◌, length, arith}
use Rattle.std.specs.Prelude.{slice_get}
use Rattle.std.proofs.lemmas.Option.{slice_get_read}
use Rattle.sp_dag.specs.Shapes.{pairs_in}
use Rattle.sp_dag.proofs.Whole.{pair_kind}
use Rattle.sp_dag.proofs.table.Table.pair.Goals as goal

pub returns-clause-kind : goal.returns-clause-kind
returns-clause-kind c =
    let pairs = c.self.inside.pairs.items in
    let is : pairs ≡ pairs_in c.args.self.now = c.self.invariant.0.pairs_right ∙ ap pairs_in c.self.view_is in
    let inside : c.args.index < length pairs = omega (arith, ap length is, c.requires) in
    pair_kind c.args.self.now c.args.index c.index.result.now
    (ap (λ (l : List (ℕ × ℕ)). slice_get l c.args.index) (sym is)
    ∙ slice_get_read pairs (length pairs) c.args.index c.index.result.now refl inside c.index.ensures)
