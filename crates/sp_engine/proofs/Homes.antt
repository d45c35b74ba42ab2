-- An arrival is kept: in the view of all blocks some rows have the ids again that they had before it, and the views before it stay as they are.
use Rattle.std.proofs.Common.{◌≡◌, ℕ, ◌+◌, ◌<◌, true, List, [], ◌∷◌, ◌++◌, length, Option, Some, None, sym, ap, subst, ◌∙◌, inl, inr, arith}
use Rattle.std.proofs.lemmas.Bool.{cases_lt}
use Rattle.sp_dag.specs.Numbered.{graph_of, Numbered}
use Rattle.sp_model.specs.Graph.{Graph, has}
use Rattle.sp_rows.specs.Pool.{Pool}
use Rattle.sp_view.specs.Homes.{AreHome, IsHome}
use Rattle.sp_view.specs.Saved.{either, patched}
use Rattle.sp_view.specs.Stored.{count_of}
use Rattle.sp_view.specs.Views.{AreKeptIds, entry_at, held, KeepIds, Viewed}
use Rattle.sp_view.proofs.Homes.{view_home}
use Rattle.sp_view.proofs.Patched.{length_patched, patched_at}
use Rattle.sp_view.proofs.Votes.{none_past}
use Rattle.sp_engine.specs.Votes.{AreViews, held_by}
use Rattle.sp_engine.proofs.Sharing.{held_more, views_more, views_move, views_parts}

-- of some views the last one goes home, where no row is held but by them and what was saved
module _ (table : Numbered) (n : ℕ) (mid new : Pool) (saved : List (Option (ℕ × ℕ))) (front : List Viewed) (last home : Viewed)
    (goes : AreHome mid new saved last.entries home.entries) (shared : (r : ℕ) → count_of mid r ≡ held saved r + held_by (front ++ last ∷ []) r) where
  pub counts_home : (r : ℕ) → count_of new r ≡ held_by (front ++ home ∷ []) r
  counts_home r = omega (arith, goes.counts r, shared r, held_more front (last ∷ []) r, held_more front (home ∷ []) r)

  pub views_home : home.members ≡ last.members → AreViews table mid n (front ++ last ∷ []) → AreViews table new n (front ++ home ∷ [])
  views_home members are =
      let parts = views_parts table mid n front (last ∷ []) are in
      views_more table new n front (home ∷ [])
      (
      views_move table mid n new front (λ r. omega (arith, counts_home r, held_more front (home ∷ []) r))
      (λ r some. goes.others r (omega (arith, some, shared r, held_more front (last ∷ []) r))) parts.0
      ) (
        view_home table mid new saved last home parts.1.0 members goes (λ r. omega (arith, counts_home r, held_more front (home ∷ []) r)),
        subst (λ (l : List ℕ). (z : ℕ) → has l z ≡ true → z < n) (sym members) parts.1.1,
        tt,
      )

-- ---- the ids

-- the entry from before is the saved one where one is saved
entry_keeps : (g : Graph) (set more : List ℕ) (x y : ℕ) (saved entry entry' : Option (ℕ × ℕ)) → IsHome saved entry entry' → KeepIds g set more x y (either saved entry) entry → KeepIds g set more x y (either saved entry) entry'
entry_keeps g set more x y None entry entry' goes keeps = subst (λ (o : Option (ℕ × ℕ)). KeepIds g set more x y entry o) (sym goes) keeps
entry_keeps g set more x y (Some s) None entry' goes keeps = absurd keeps
entry_keeps g set more x y (Some s) (Some e) None goes keeps = absurd goes
entry_keeps g set more x y (Some s) (Some e) (Some e') goes keeps = (
  λ same. elim goes.0 [
    | inl own ↦ own ∙ keeps.0 same
    | inr back ↦ back
  ],
  λ same. elim goes.1 [
    | inl own ↦ own ∙ keeps.1 same
    | inr back ↦ back
  ],
)

-- what stays of the rows of the entries from before keeps its id
pub home_keeps : (table : Numbered) (set more : List ℕ) (saved was entries entries' : List (Option (ℕ × ℕ))) → patched saved entries ≡ was → ((i : ℕ) → IsHome (entry_at saved i) (entry_at entries i) (entry_at entries' i))
    → AreKeptIds table set more was entries → AreKeptIds table set more was entries'
home_keeps table set more saved was entries entries' same goes kept i x y at = elim (cases_lt i (length saved)) [
  | inl less ↦
      let here : entry_at was i ≡ either (entry_at saved i) (entry_at entries i) = ap (λ (l : List (Option (ℕ × ℕ))). entry_at l i) (sym same) ∙ patched_at saved entries i less in
      subst (λ (o : Option (ℕ × ℕ)). KeepIds (graph_of table) set more x y o (entry_at entries' i)) (sym here)
      (entry_keeps (graph_of table) set more x y (entry_at saved i) (entry_at entries i) (entry_at entries' i) (goes i)
      (subst (λ (o : Option (ℕ × ℕ)). KeepIds (graph_of table) set more x y o (entry_at entries i)) here (kept i x y at)))
  | inr more_of ↦
      subst (λ (o : Option (ℕ × ℕ)). KeepIds (graph_of table) set more x y o (entry_at entries' i)) (sym (none_past was i (omega (arith, more_of, ap length same, length_patched saved entries)))) tt
]
