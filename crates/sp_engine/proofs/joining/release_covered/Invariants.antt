use Rattle.std.proofs.Common.{◌≡◌, ◌<◌, ◌≤◌, ◌+◌, ◌-◌, ◌++◌, ℕ, List, length, take, drop}
use Rattle.std.specs.Prelude.{filter, vec_len}
use Rattle.sp_dag.specs.Numbered.{Numbered}
use Rattle.sp_view.specs.Stored.{count_of, row_of}
use Rattle.sp_view.specs.Views.{Viewed}
use Rattle.sp_engine.specs.Votes.{held_by, is_uncovered, AreViews}
use Rattle.sp_engine.proofs.joining.release_covered.Given as goal

abbrev pub invariant-views : goal.invariant-views
invariant-views l = record {
  place : l.i ≤ vec_len l.views;
  rest : (front back : List Viewed) → l.place ≡ length front → l.fn.views.items ≡ front ++ back
      → front ++ filter (is_uncovered l.dag) back ≡ take l.i l.views.items ++ filter (is_uncovered l.dag) (drop l.i l.views.items);
  views : (table : Numbered) (n : ℕ) → AreViews table l.fn.rows n l.fn.views.items → AreViews table l.rows n l.views.items;
  counts : (row : ℕ) → count_of l.rows row + held_by l.fn.views.items row ≡ count_of l.fn.rows row + held_by l.views.items row;
  rows : (row : ℕ) → 0 < count_of l.rows row → row_of l.rows row ≡ row_of l.fn.rows row;
}

abbrev pub decreases-views : goal.decreases-views
decreases-views l = vec_len l.views - l.i
