use Rattle.sp_dag.specs.Numbered.{graph_of}
use Rattle.sp_view.proofs.reask.rows_anew.Goals as goal

pub returns : goal.returns
returns c = λ x y at told asked.
    let known =
    c.risen-known.ensures.rows (graph_of c.args.set.now.dag.now) c.args.set.now.members.now x y c.args.set.now.voting.asked (rw (c.row_at.ensures, c.row_at-2.ensures) told) asked.0
    (rw (c.row_at.ensures, c.row_at-2.ensures) asked.1) in
    c.settled_rows.ensures.rows x y at known.0 known.1
