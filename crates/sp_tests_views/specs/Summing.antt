-- A view and the sums of its votes, one for each pair of the graph.
use Rattle.std.specs.Prelude.{◌≤◌, ℤ, List, length}
use Rattle.sp_dag.specs.Numbered.{Numbered, pairs_of}
use Rattle.sp_rows.specs.Pool.{Pool}
use Rattle.sp_view.specs.Summed.{AreRight}
use Rattle.sp_view.specs.Views.{Viewed, IsView}

pub record IsSummed (table : Numbered) (pool : Pool) (view : Viewed) (sums : List ℤ) : Type 0 where
  pub is : IsView table view pool
  pub right : AreRight table view.members sums
  pub long : length (pairs_of table) ≤ length sums
