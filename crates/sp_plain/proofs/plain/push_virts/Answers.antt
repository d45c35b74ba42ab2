use Rattle.std.proofs.Common.{◌∙◌, FitsSigned, rules}
use Rattle.std.proofs.lemmas.Int.{to_z-of_z}
use Rattle.std.specs.Int.{w8}
use Rattle.sp_dag.specs.Numbered.{graph_of}
use Rattle.sp_model.specs.Votes.{virt}
use Rattle.sp_plain.proofs.Entries.{row_more}
use Rattle.sp_plain.proofs.plain.push_virts.Goals as goal

pub loop-y-preserved : goal.loop-y-preserved
loop-y-preserved c =
    let f : FitsSigned w8 c.in_ok-virt_of.field-0 = search rules in
    row_more (virt (graph_of c.args.dag.now) c.args.members.now c.args.x) c.loop-y.y c.args.votes.now.items c.loop-y.votes.items c.push.new.self.items _
    c.loop-y.invariant c.in_ok-push.ensures.items (to_z-of_z w8 _ f ∙ c.in_ok-virt_of.ensures.ok)
