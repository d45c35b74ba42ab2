use Rattle.std.proofs.Common.{◌≤◌, ℕ, Option, Some, arith, subst}
use Rattle.sp_dag.specs.Numbered.{graph_of}
use Rattle.sp_model.specs.Graph.{Graph}
use Rattle.sp_view.specs.Stored.{count_of}
use Rattle.sp_view.specs.Views.{holds, IsEntry}
use Rattle.sp_view.proofs.Moves.{moves_old}
use Rattle.sp_view.proofs.entries.step_entry.Goals as goal

pub joined_entry-joined-requires-clause-rows : goal.joined_entry-joined-requires-clause-rows
joined_entry-joined-requires-clause-rows c =
    let g : Graph = graph_of c.args.join.now.set.dag.now in
    let entry : (x y : ℕ) (at : _) → IsEntry g c.args.join.now.before.now x y c.args.pool.now (Some c.in-Some.rows) =
    λ x y at. subst (λ (e : Option (ℕ × ℕ)). IsEntry g c.args.join.now.before.now x y c.args.pool.now e) c.in-Some.is (c.requires.entry x y at) in
    record {
      counted = subst (λ (e : Option (ℕ × ℕ)). (r : ℕ) → holds e r ≤ count_of c.args.pool.now r) c.in-Some.is c.requires.live;
      inside = λ x y at. (entry x y at).0;
      sides = λ x y at. (entry x y at).1;
      room = λ x y at. omega (arith, c.requires.room x y at, moves_old g c.args.join.now.before.now c.args.join.now.set.members.now x y (entry x y at).0);
    }
