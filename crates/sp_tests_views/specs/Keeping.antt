-- A view whose entries are saved before they change, over a pool of which no one else holds rows: what it is, and what it was.
use Rattle.std.specs.Prelude.{ℕ, ℤ, ◌≡◌, ◌≤◌, ◌+◌, List, length, Option}
use Rattle.sp_dag.specs.Numbered.{Numbered, pairs_of}
use Rattle.sp_frozen.specs.Voters.{FrozenRows}
use Rattle.sp_rows.specs.Pool.{Pool}
use Rattle.sp_view.specs.Saved.{patched, IsSaving}
use Rattle.sp_view.specs.Stored.{count_of}
use Rattle.sp_view.specs.Summed.{AreSums}
use Rattle.sp_view.specs.Views.{Viewed, held, IsView}
use Rattle.sp_tests_views.specs.Voting.{IsBased}

-- the view with its sums, and the members, the saved entries and the sums by which it is put back
pub record IsKept (table : Numbered) (frozen : FrozenRows) (pool : Pool) (view : Viewed) (sums : List ℤ) (members : List ℕ) (saved : List (Option (ℕ × ℕ))) (older : List ℤ) : Type 0 where
  pub based : IsBased table frozen
  pub is : IsView table view pool
  pub summed : AreSums table view.members sums
  pub long : length (pairs_of table) ≤ length sums
  pub saving : IsSaving saved view.entries
  pub counts : (r : ℕ) → count_of pool r ≡ held view.entries r + held saved r
  pub was : IsView table (record { members = members; entries = patched saved view.entries }) pool
  pub summed_then : AreSums table members older
  pub long_then : length (pairs_of table) ≤ length older
