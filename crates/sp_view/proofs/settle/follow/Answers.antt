use Rattle.std.proofs.Common.{◌∙◌, ℕ, List, ap, sym}
use Rattle.sp_dag.specs.Numbered.{graph_of}
use Rattle.sp_model.specs.Graph.{has}
use Rattle.sp_view.proofs.Following.{difference_from, minus_followed, plus_followed}
use Rattle.sp_view.proofs.settle.follow.Goals as goal

pub returns-in-Some-clause-among : goal.returns-in-Some-clause-among
returns-in-Some-clause-among c = λ z h. difference_from c.args.left.now c.in-Some.same z (ap (λ (l : List ℕ). has l z) (sym c.without.ensures) ∙ h)

pub returns-in-Some-clause-settled : goal.returns-in-Some-clause-settled
returns-in-Some-clause-settled c = λ set x y asked opened votes.
    rw (c.without.ensures, c.or_with.ensures)
    (plus_followed (graph_of c.args.dag.now) set x y c.args.left.now c.args.plus.now c.args.minus.now c.in-Some.same asked opened votes
    c.in-Some.ensures.among (c.in-Some.ensures.plus set x y asked opened votes))

pub returns-in-Some-followers-clause-among : goal.returns-in-Some-followers-clause-among
returns-in-Some-followers-clause-among c = λ z h. difference_from c.args.left.now c.in-Some-followers.same z (ap (λ (l : List ℕ). has l z) (sym c.without-in-Some-followers.ensures) ∙ h)

pub returns-in-Some-followers-clause-settled : goal.returns-in-Some-followers-clause-settled
returns-in-Some-followers-clause-settled c = λ set x y asked opened votes.
    rw (c.without-in-Some-followers.ensures, c.or_with-in-Some-followers.ensures)
    (minus_followed (graph_of c.args.dag.now) set x y c.args.left.now c.args.plus.now c.args.minus.now c.in-Some-followers.same asked opened votes
    c.in-Some-followers.ensures.among (c.in-Some-followers.ensures.minus set x y asked opened votes))
