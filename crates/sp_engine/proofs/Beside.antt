-- Entries that are saved beside the views of the votes stay so while a block joins, and while views are let go.
use Rattle.std.proofs.Common.{◌≡◌, ℕ, ◌+◌, ◌*◌, ◌≤◌, List, ◌∷◌, ◌++◌, [], length, Option, sym, subst, ◌∙◌, arith}
use Rattle.sp_dag.specs.Numbered.{IsNumbered, with_next, Numbered, pairs_of, AreInOrder}
use Rattle.sp_frozen.proofs.Growth.{more_pairs}
use Rattle.sp_rows.specs.Pool.{AreRows, Pool}
use Rattle.sp_view.specs.Stored.{count_of, live}
use Rattle.sp_view.specs.Views.{Viewed, held}
use Rattle.sp_engine.specs.Votes.{AreShared, AreViews, held_by, Tallied}
use Rattle.sp_engine.proofs.Sharing.{few_held_by, few_live}

module _ (table : Numbered) (pool : Pool) (views : List Viewed) (saved : List (Option (ℕ × ℕ))) (h : AreShared table pool views saved) where
  pub counted : (r : ℕ) → held_by views r ≤ count_of pool r
  counted r = omega (arith, h.counts r)

  -- no more rows are live than all the entries can hold
  pub few_live_beside : (n : ℕ) → length (pairs_of table) ≤ 130816 → AreViews table pool n views → AreRows 0 pool.rows → live pool ≤ 261632 * (1 + length views)
  few_live_beside n small are sound = few_live table pool n small views saved h.few sound h.counts are

  -- and each view holds a row once at most
  pub few_counted : (n : ℕ) → AreViews table pool n views → (r : ℕ) → count_of pool r ≤ 1 + length views
  few_counted n are r = omega (arith, h.counts r, h.once r, few_held_by table pool n views r are)

  -- beside a block more in the graph
  pub shared_stays : (id salt : ℕ) (ps : List ℕ) → IsNumbered table → AreInOrder (table.parents ++ ps ∷ []) → AreShared (with_next table id salt ps) pool views saved
  shared_stays id salt ps numbered order = record { few = omega (arith, h.few, more_pairs table id salt ps numbered order); once = h.once; counts = h.counts }

  -- a view is derived
  pub shared_derived : (pool' : Pool) (tip : Viewed) → ((r : ℕ) → count_of pool' r ≡ count_of pool r + held tip.entries r) → AreShared table pool' (tip ∷ views) saved
  shared_derived pool' tip derived = record { few = h.few; once = h.once; counts = λ r. omega (arith, h.counts r, derived r) }

-- a view among them grows
pub shared_grown : (table : Numbered) (pool : Pool) (views : List Viewed) (saved : List (Option (ℕ × ℕ))) (tip tip' : Viewed) (pool' : Pool) → AreShared table pool (tip ∷ views) saved
    → ((r : ℕ) → count_of pool' r + held tip.entries r ≡ count_of pool r + held tip'.entries r) → AreShared table pool' (tip' ∷ views) saved
shared_grown table pool views saved tip tip' pool' h grown = record { few = h.few; once = h.once; counts = λ r. omega (arith, h.counts r, grown r) }

-- the same views, as they are lent
pub shared_lent : (table : Numbered) (v w : Tallied) (lent : List Viewed) (saved : List (Option (ℕ × ℕ))) → v ≡ w → lent ≡ v.views → AreShared table w.rows w.views saved → AreShared table v.rows lent saved
shared_lent table v w lent saved is views h =
    subst (λ (l : List Viewed). AreShared table v.rows l saved) (sym views) (subst (λ (x : Tallied). AreShared table x.rows x.views saved) (sym is) h)

-- and behind the new tip's view, where that was made from them
pub shared_tip : (table : Numbered) (v w : Tallied) (pool : Pool) (tip : Viewed) (lent views : List Viewed) (saved : List (Option (ℕ × ℕ))) → v ≡ w → lent ≡ views → views ≡ v.views
    → (AreShared table v.rows lent saved → AreShared table pool (tip ∷ lent) saved) → AreShared table w.rows w.views saved → AreShared table pool (tip ∷ views) saved
shared_tip table v w pool tip lent views saved is same own made h =
    subst (λ (l : List Viewed). AreShared table pool (tip ∷ l) saved) same (made (shared_lent table v w lent saved is (same ∙ own) h))
