-- The votes while blocks join, where no view changes.
use Rattle.std.proofs.Common.{◌≡◌, ℕ, ◌<◌, ◌≤◌, List, [], ◌∷◌, ◌++◌, Option, sym, ap, subst, ◌∙◌, arith}
use Rattle.sp_dag.specs.Numbered.{Numbered}
use Rattle.sp_frozen.specs.Voters.{HoldsFrozen}
use Rattle.sp_view.specs.Stored.{count_of, row_of}
use Rattle.sp_view.specs.Summed.{AreSums}
use Rattle.sp_view.specs.Views.{held, Viewed}
use Rattle.sp_view.proofs.Patched.{held_patched}
use Rattle.sp_engine.specs.Votes.{AreJoining, AreViews, held_by, Tallied}
use Rattle.sp_engine.proofs.Sharing.{held_more, views_move, views_up}

module _ (table : Numbered) (n : ℕ) (old v : Tallied) (saved : List (Option (ℕ × ℕ))) (j : AreJoining table n old v saved) where
  -- what the old views hold is counted
  pub held_old : (r : ℕ) → held_by old.views r ≤ count_of v.rows r
  held_old r = omega (
    arith,
    j.shared.counts r,
    ap (λ (l : List Viewed). held_by l r) j.old_is,
    held_more j.olds (j.was ∷ []) r,
    ap (λ (l : List Viewed). held_by l r) j.is,
    held_more j.olds (j.joined ++ j.all ∷ []) r,
    held_more j.joined (j.all ∷ []) r,
    held_patched saved j.all.entries r,
    ap (λ (l : List (Option (ℕ × ℕ))). held l r) j.patched_is,
  )

  -- where no view changes
  pub joining_moves : (w : Tallied) → w.views ≡ v.views → AreSums table j.all.members w.sums → ((r : ℕ) → count_of w.rows r ≡ count_of v.rows r) → ((r : ℕ) → 0 < count_of v.rows r → row_of w.rows r ≡ row_of v.rows r)
      → HoldsFrozen table w.frozen → v.frozen.blocks ≤ w.frozen.blocks → AreJoining table n old w saved
  joining_moves w views summed counts rows frozen more = record {
    frozen = frozen;
    before = j.before;
    rows = j.rows;
    count = j.count;
    counted = j.counted;
    sound = j.sound;
    tips = j.tips;
    later = omega (arith, j.later, more);
    views =
        subst (λ (l : List Viewed). AreViews table w.rows w.frozen.blocks l) (sym views)
        (views_up table w.rows v.frozen.blocks w.frozen.blocks v.views more
        (views_move table v.rows v.frozen.blocks w.rows v.views (λ r. omega (arith, counts r, j.shared.counts r)) (λ r some. rows r (omega (arith, some, j.shared.counts r))) j.views));
    shared = record {
      few = j.shared.few;
      once = j.shared.once;
      counts = λ r. omega (arith, counts r, j.shared.counts r, ap (λ (l : List Viewed). held_by l r) views);
    };
    olds = j.olds;
    few = j.few;
    was = j.was;
    old_is = j.old_is;
    firsts = j.firsts;
    asked = j.asked;
    once = j.once;
    joined = j.joined;
    all = j.all;
    saving = j.saving;
    patched_is = j.patched_is;
    is = views ∙ j.is;
    places = λ r some. rows r (omega (arith, some, held_old r)) ∙ j.places r some;
    sums = summed;
    sums_before = j.sums_before;
  }
