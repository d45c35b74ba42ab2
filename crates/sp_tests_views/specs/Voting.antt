-- Graphs whose blocks have frozen votes, and views of their blocks over one pool.
use Rattle.std.specs.Prelude.{ℕ, ◌≡◌, ◌+◌, length}
use Rattle.sp_dag.specs.Numbered.{Numbered}
use Rattle.sp_frozen.specs.Voters.{FrozenRows, HoldsFrozen}
use Rattle.sp_rows.specs.Pool.{Pool}
use Rattle.sp_view.specs.Stored.{count_of}
use Rattle.sp_view.specs.Views.{Viewed, held, IsView}

-- a graph all of whose blocks have frozen votes
pub record IsBased (table : Numbered) (frozen : FrozenRows) : Type 0 where
  pub voted : HoldsFrozen table frozen
  pub every : frozen.blocks ≡ length table.parents

-- a view whose votes can be asked
pub record CanVote (table : Numbered) (frozen : FrozenRows) (pool : Pool) (view : Viewed) : Type 0 where
  pub based : IsBased table frozen
  pub is : IsView table view pool

-- two views over a pool; no row is held but by them, each as often as it is counted
pub record AreTwo (table : Numbered) (frozen : FrozenRows) (pool : Pool) (one other : Viewed) : Type 0 where
  pub based : IsBased table frozen
  pub is : IsView table one pool
  pub beside : IsView table other pool
  pub counts : (row : ℕ) → count_of pool row ≡ held one.entries row + held other.entries row
