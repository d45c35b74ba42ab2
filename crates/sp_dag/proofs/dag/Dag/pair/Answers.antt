use Rattle.std.proofs.Common.{◌≡◌, ◌∙◌, ap, sym, length, List, ℕ, arith}
use Rattle.std.specs.Prelude.{slice_get}
use Rattle.sp_dag.specs.Numbered.{Numbered, pairs_of}
use Rattle.sp_dag.specs.Shapes.{pairs_in}
use Rattle.sp_dag.proofs.Ranked.{pair_kind, pairs_shaped}
use Rattle.sp_dag.proofs.dag.Dag.pair.Goals as goal

pub pair-requires : goal.pair-requires
pair-requires c =
    let long : length (pairs_in c.self.inside.table) ≡ length (pairs_of c.args.self.now) =
    ap (λ (b : Numbered). length (pairs_in b.parents)) c.self.view_is ∙ sym (ap length (pairs_shaped c.args.self.now)) in
    omega (arith, long, c.requires)

pub returns-clause-pair : goal.returns-clause-pair
returns-clause-pair c =
    ap (λ (l : List (ℕ × ℕ)). slice_get l c.args.i) (pairs_shaped c.args.self.now)
    ∙ sym (ap (λ (b : Numbered). slice_get (pairs_in b.parents) c.args.i) c.self.view_is) ∙ c.pair.ensures.pair

pub returns-clause-kind : goal.returns-clause-kind
returns-clause-kind c = pair_kind c.args.self.now c.args.i c.pair.result (returns-clause-pair c)
