use Rattle.std.proofs.Common.{◌∙◌, ap, sym, length, arith}
use Rattle.sp_dag.specs.Numbered.{Numbered, graph_of, pairs_below}
use Rattle.sp_dag.specs.Shapes.{shape_of}
use Rattle.sp_dag.proofs.Ranked.{below_shaped}
use Rattle.sp_dag.proofs.Starts.{fewer_below, stands_behind}
use Rattle.sp_dag.proofs.dag.Dag.first_pair.Goals as goal

pub returns-clause-value : goal.returns-clause-value
returns-clause-value c =
    c.first_pair.ensures ∙ ap (λ (b : Numbered). length (pairs_below (shape_of b.parents) c.args.n)) c.self.view_is
    ∙ sym (ap length (below_shaped c.args.self.now c.args.n))

pub returns-clause-from : goal.returns-clause-from
returns-clause-from c = λ i x y at.
    rw (returns-clause-value c) (stands_behind (graph_of c.args.self.now) c.args.n (length c.args.self.now.parents) i (x, y) c.requires at)

pub returns-clause-within : goal.returns-clause-within
returns-clause-within c =
    omega (arith, returns-clause-value c, fewer_below (graph_of c.args.self.now) c.args.n (length c.args.self.now.parents) c.requires)
