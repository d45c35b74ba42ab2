use Rattle.std.proofs.Common.{◌∙◌, ap, rules, FitsSigned}
use Rattle.std.proofs.lemmas.Int.{to_z-of_z}
use Rattle.std.specs.Int.{w8, w32}
use Rattle.sp_dag.specs.Numbered.{graph_of}
use Rattle.sp_model.specs.Votes.{sgn}
use Rattle.sp_plain.proofs.Cases.{virt_by_table}
use Rattle.sp_plain.proofs.ballots.virt_of.Goals as goal

pub returns : goal.returns
returns c =
    let f : FitsSigned w8 c.sign_of.result = search rules in
    let f' : FitsSigned w32 c.sum_of_members.result = search rules in
    record {
      ok = to_z-of_z w8 _ f ∙ c.sign_of.ensures ∙ ap sgn (to_z-of_z w32 _ f') ∙ ap sgn c.sum_of_members.ensures
          ∙ rw c.deref.ensures.value (virt_by_table (graph_of c.args.dag.now) c.args.members.now c.args.width c.args.x c.args.y _ c.requires.below c.in_ok-votes.ensures.ok);
    }
