use Rattle.std.proofs.Common.{◌∙◌, ◌<◌, ℕ, List, ap, arith}
use Rattle.sp_dag.specs.Numbered.{Numbered, graph_of}
use Rattle.sp_dag.proofs.Ranked.{ancestors_lower, past_members}
use Rattle.sp_model.specs.Graph.{has}
use Rattle.sp_view.proofs.Free.{free_told}
use Rattle.sp_view.proofs.runs.free_below.Goals as goal

pub returns : goal.returns
returns c =
    let table : Numbered = c.args.dag.now in
    free_told (graph_of table) c.args.b c.args.second c.past.result.now c.closed.result.now c.without.new.self
    (λ z. ap (λ (l : List ℕ). has l z) c.past.ensures ∙ past_members table z c.args.b c.len-blocks.ensures.numbered.order c.requires.b_in)
    c.closed.ensures
    (λ z h. (let lower : z < c.args.b = ancestors_lower table z c.args.b c.len-blocks.ensures.numbered.order c.requires.b_in h in omega (arith, c.len-blocks.ensures.numbered.small)))
    c.without.ensures
