use Rattle.std.proofs.Common.{◌∙◌, FitsSigned, Option, rules, subst, sym}
use Rattle.std.specs.Prelude.{ℤ}
use Rattle.std.proofs.lemmas.Int.{to_z-of_z}
use Rattle.std.proofs.lemmas.Option.{slice_get_within}
use Rattle.std.specs.Int.{w32}
use Rattle.sp_dag.specs.Numbered.{graph_of}
use Rattle.sp_view.specs.Summed.{IsSum}
use Rattle.sp_view.proofs.summing.note_sum.Goals as goal

pub sum_after-requires-clause-sum : goal.sum_after-requires-clause-sum
sum_after-requires-clause-sum c = λ x y at inside.
    let f : FitsSigned w32 c.in-Some.sum = search rules in
    to_z-of_z w32 c.in-Some.sum f
    ∙ subst (λ (o : Option ℤ). IsSum (graph_of c.args.join.now.set.dag.now) c.args.join.now.before.now x y o) (sym c.get.ensures ∙ c.in-Some.is) (c.requires.sum x y at) inside

pub set-requires : goal.set-requires
set-requires c = slice_get_within c.args.sums.now c.args.pair c.in-Some.sum (sym c.get.ensures ∙ c.in-Some.is)
