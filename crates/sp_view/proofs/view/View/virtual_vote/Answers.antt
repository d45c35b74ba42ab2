use Rattle.std.proofs.Common.{◌≡◌, ◌∙◌, FitsSigned, ap, arith, of_z, rules, sym, to_z}
use Rattle.std.specs.Prelude.{pos, ◌-ℤ◌}
use Rattle.std.proofs.lemmas.Int.{ints, to_z-of_z}
use Rattle.std.specs.Int.{w8, w32}
use Rattle.sp_dag.specs.Numbered.{graph_of}
use Rattle.sp_model.specs.Votes.{sgn}
use Rattle.sp_view.proofs.Gains.{virt_sum}
use Rattle.sp_view.proofs.view.View.virtual_vote.Goals as goal

pub returns : goal.returns
returns c = λ table x y is holds added at.
    let f : FitsSigned w8 c.side.result = search rules in
    let fs : FitsSigned w32 c.sum.result = search rules in
    let less : c.sum.result ≡ to_z w32 (of_z w32 c.sum.result) -ℤ pos 0 = omega (arith, ints, to_z-of_z w32 _ fs) in
    to_z-of_z w8 _ f ∙ c.side.ensures
    ∙ ap sgn (sym (sym (c.sum.ensures table x y is holds added at) ∙ less)) ∙ sym (virt_sum (graph_of table) c.args.self.now.members x y)
