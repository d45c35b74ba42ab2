use Rattle.std.proofs.Common.{◌∙◌, ℕ, ap, length, subst, sym}
use Rattle.sp_dag.specs.Numbered.{Numbered, graph_of}
use Rattle.sp_plain.specs.Virts.{HasVirts, virts_in}
use Rattle.sp_plain.specs.Plain.{IsClosed}
use Rattle.sp_plain.proofs.Downsets.{closed_downset}
use Rattle.sp_plain.proofs.Entries.{has_virts}
use Rattle.sp_plain.proofs.grown.Plain.votes.Goals as goal

pub virts_of-requires-clause-whole : goal.virts_of-requires-clause-whole
virts_of-requires-clause-whole c =
    closed_downset c.self.inside.dag c.args.members.now c.len-width.ensures.numbered.order
    (subst (λ (t : Numbered). IsClosed (graph_of t) (length t.parents) c.args.members.now) (sym c.self.view_is) c.requires)

pub returns-clause-votes : goal.returns-clause-votes
returns-clause-votes c =
    let table : Numbered = c.self.inside.dag in
    let n : ℕ = length table.parents in
    let votes : HasVirts (graph_of table) c.args.members.now n c.in_ok-matrix.matrix =
    subst (HasVirts (graph_of table) c.args.members.now n) (sym (c.in_ok-matrix.ensures.ok ∙ ap (virts_in (graph_of table) c.args.members.now) c.len-width.ensures.value)) (has_virts (graph_of table) c.args.members.now n) in
    subst (λ (t : Numbered). HasVirts (graph_of t) c.args.members.now (length t.parents) c.in_ok-matrix.matrix) c.self.view_is votes
