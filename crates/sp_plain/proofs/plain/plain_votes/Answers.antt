use Rattle.std.proofs.Common.{◌∙◌, ℕ, ap, length, subst, sym}
use Rattle.sp_dag.specs.Numbered.{graph_of}
use Rattle.sp_model.specs.Graph.{Graph}
use Rattle.sp_plain.specs.Virts.{HasVirts, virts_in}
use Rattle.sp_plain.proofs.Downsets.{closed_downset}
use Rattle.sp_plain.proofs.Entries.{has_virts}
use Rattle.sp_plain.proofs.plain.plain_votes.Goals as goal

pub virts_of-requires-clause-whole : goal.virts_of-requires-clause-whole
virts_of-requires-clause-whole c = closed_downset c.args.dag.now c.args.members.now c.len.ensures.numbered.order c.requires

pub returns : goal.returns
returns c =
    let g : Graph = graph_of c.args.dag.now in
    let n : ℕ = length c.args.dag.now.parents in
    subst (HasVirts g c.args.members.now n) (sym (c.in_ok-matrix.ensures.ok ∙ ap (virts_in g c.args.members.now) c.len.ensures.value)) (has_virts g c.args.members.now n)
