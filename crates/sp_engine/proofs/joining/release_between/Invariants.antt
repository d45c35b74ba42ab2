use Rattle.std.proofs.Common.{◌≡◌, ◌<◌, ◌≤◌, ◌+◌, ◌++◌, ℕ, List, length}
use Rattle.std.specs.Prelude.{vec_len}
use Rattle.sp_dag.specs.Numbered.{Numbered}
use Rattle.sp_view.specs.Stored.{count_of, row_of}
use Rattle.sp_view.specs.Views.{Viewed}
use Rattle.sp_engine.specs.Votes.{AreViews, held_by}
use Rattle.sp_engine.proofs.joining.release_between.Given as goal

abbrev pub invariant-views : goal.invariant-views
invariant-views l = record {
  place : l.first + l.last ≤ vec_len l.views;
  rest : (front between back : List Viewed) → l.first ≡ length front → l.last ≡ length back → l.fn.views.items ≡ front ++ (between ++ back) → (left : List Viewed) × (l.views.items ≡ front ++ (left ++ back));
  views : (table : Numbered) (n : ℕ) → AreViews table l.fn.rows n l.fn.views.items → AreViews table l.rows n l.views.items;
  counts : (row : ℕ) → count_of l.rows row + held_by l.fn.views.items row ≡ count_of l.fn.rows row + held_by l.views.items row;
  rows : (row : ℕ) → 0 < count_of l.rows row → row_of l.rows row ≡ row_of l.fn.rows row;
}

abbrev pub decreases-views : goal.decreases-views
decreases-views l = vec_len l.views
