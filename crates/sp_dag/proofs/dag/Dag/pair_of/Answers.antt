use Rattle.std.proofs.Common.{◌≡◌, ◌∙◌, ap, subst, sym, Bool, true, ◌||◌, ◌==◌, List, ℕ, min, max, Some}
use Rattle.std.specs.Prelude.{slice_get, IfSome, IsNone, ◌↔◌}
use Rattle.sp_model.specs.Graph.{related}
use Rattle.sp_dag.specs.Numbered.{Numbered}
use Rattle.sp_dag.specs.Shapes.{pairs_in, shape_of}
use Rattle.sp_dag.proofs.Ranked.{pairs_shaped, related_shaped}
use Rattle.sp_dag.proofs.dag.Dag.pair_of.Goals as goal

pub returns-clause-some : goal.returns-clause-some
returns-clause-some c =
    subst (λ (l : List (ℕ × ℕ)). IfSome c.pair_of.result (λ i. slice_get l i ≡ Some (min c.args.x c.args.y, max c.args.x c.args.y)))
    (ap (λ (b : Numbered). pairs_in b.parents) c.self.view_is ∙ sym (pairs_shaped c.args.self.now)) c.pair_of.ensures.some

pub returns-clause-only : goal.returns-clause-only
returns-clause-only c = λ i there.
    c.pair_of.ensures.only i
    (ap (λ (b : Numbered). slice_get (pairs_in b.parents) i) c.self.view_is
    ∙ sym (ap (λ (l : List (ℕ × ℕ)). slice_get l i) (pairs_shaped c.args.self.now)) ∙ there)

pub returns-clause-none : goal.returns-clause-none
returns-clause-none c =
    subst (λ (r : Bool). IsNone c.pair_of.result ↔ (((c.args.x == c.args.y) || r) ≡ true))
    (ap (λ (b : Numbered). related (shape_of b.parents) c.args.x c.args.y) c.self.view_is ∙ sym (related_shaped c.args.self.now c.args.x c.args.y))
    c.pair_of.ensures.none
