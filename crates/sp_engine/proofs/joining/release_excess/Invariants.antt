use Rattle.std.proofs.Common.{◌≡◌, ◌<◌, ◌≤◌, ◌+◌, ◌++◌, ◌∷◌, [], ℕ, List, length, map}
use Rattle.std.specs.Prelude.{vec_len}
use Rattle.sp_dag.specs.Numbered.{AreInOrder, Numbered}
use Rattle.sp_view.specs.Stored.{count_of, row_of}
use Rattle.sp_view.specs.Views.{Viewed}
use Rattle.sp_engine.specs.Votes.{AreLeft, AreViews, bar_row, held_by, tips_from}
use Rattle.sp_engine.proofs.joining.release_excess.Given as goal

abbrev pub invariant-views : goal.invariant-views
invariant-views l = record {
  shorter : vec_len l.views ≤ vec_len l.fn.views;
  left : (table : Numbered) (front tips : List Viewed) (all : Viewed) (from : ℕ) → AreInOrder table.parents → length table.parents ≤ 512 → l.place ≡ length front
      → l.fn.views.items ≡ front ++ (tips ++ all ∷ []) → map (λ (view : Viewed). view.members) tips ≡ map (bar_row table) (tips_from table.parents from)
      → AreLeft table front tips all from l.since l.rows l.views.items l.from;
  two : vec_len l.fn.views ≤ l.place + 2 → (l.views.items ≡ l.fn.views.items) × (l.from ≡ l.since);
  views : (table : Numbered) (n : ℕ) → AreViews table l.fn.rows n l.fn.views.items → AreViews table l.rows n l.views.items;
  counts : (row : ℕ) → count_of l.rows row + held_by l.fn.views.items row ≡ count_of l.fn.rows row + held_by l.views.items row;
  rows : (row : ℕ) → 0 < count_of l.rows row → row_of l.rows row ≡ row_of l.fn.rows row;
}

abbrev pub decreases-views : goal.decreases-views
decreases-views l = vec_len l.views
