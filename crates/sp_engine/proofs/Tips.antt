-- A new block's past as the target of a view, and the other views beside the new one.
use Rattle.std.proofs.Common.{◌≡◌, ℕ, ◌+◌, ◌<◌, ◌≤◌, Bool, true, false, ◌||◌, List, length, Option, Some, None, sym, ap, subst, ◌∙◌, eqb, arith}
use Rattle.std.proofs.lemmas.Bool.{false_from_ne_true}
use Rattle.sp_bits.specs.Places.{IsRow, places_where}
use Rattle.sp_bits.proofs.Sets.{places_same}
use Rattle.sp_dag.specs.Numbered.{Numbered, graph_of, AreInOrder}
use Rattle.sp_dag.proofs.Bools.{eqb_flip, or_comm}
use Rattle.sp_dag.proofs.Ranked.{ancestors_lower, complete_numbered, past_members}
use Rattle.sp_model.specs.Graph.{Graph, has, in_past, past, IsDownset}
use Rattle.sp_model.specs.Loose.{in_bar}
use Rattle.sp_model.proofs.Pasts.{has-past, past_downset}
use Rattle.sp_rows.specs.Pool.{Pool}
use Rattle.sp_view.specs.Stored.{count_of, row_of}
use Rattle.sp_view.specs.Settled.{IsAsked}
use Rattle.sp_view.specs.Views.{AreKeptIds, entry_at, held, KeepIds, Viewed}
use Rattle.sp_engine.specs.Votes.{AreKeptIdsBy, AreViews, bar_row, held_by, KeepIdsBy}
use Rattle.sp_engine.proofs.Sharing.{views_move, views_up}

module _ (table : Numbered) (b : ℕ) (order : AreInOrder table.parents) (lt : b < length table.parents) (row : List ℕ) (is : row ≡ past (graph_of table) b) where
  pub past_asked : IsRow row → IsAsked (graph_of table) row
  past_asked r = record { row = r; down = subst (λ (l : List ℕ). IsDownset (graph_of table) l) (sym is) (past_downset (graph_of table) b (complete_numbered table b order lt)) }

  pub past_lower : (z : ℕ) → has row z ≡ true → z < b
  past_lower z h = ancestors_lower table z b order lt (has-past (graph_of table) b z (ap (λ (l : List ℕ). has l z) (sym is) ∙ h))

  pub past_without : has row b ≡ false
  past_without = false_from_ne_true (has row b) (λ h. (let less : b < b = past_lower b h in absurd (omega (arith, less))))

  pub past_there : (z : ℕ) → in_past (graph_of table) z b ≡ true → has row z ≡ true
  past_there z r = ap (λ (l : List ℕ). has l z) is ∙ past_members table z b order lt ∙ r

  -- with the block itself
  pub past_and_block : (members : List ℕ) → members ≡ places_where (λ p. has row p || eqb p b) → members ≡ bar_row table b
  past_and_block members e = e ∙ places_same (λ p. has row p || eqb p b) (λ z. in_bar (graph_of table) z b) (λ k _.
      ap (λ (c : Bool). c || eqb k b) (ap (λ (l : List ℕ). has l k) is ∙ past_members table k b order lt)
      ∙ or_comm (in_past (graph_of table) k b) (eqb k b) ∙ ap (λ (c : Bool). c || in_past (graph_of table) k b) (eqb_flip k b))

-- the other views stay where one is derived, and then grows by a block
pub others_stay : (table : Numbered) (pool mid pool' : Pool) (n : ℕ) (views : List Viewed) (tip tip' : Viewed)
    → ((r : ℕ) → held_by views r ≤ count_of pool r)
    → ((r : ℕ) → count_of mid r ≡ count_of pool r + held tip.entries r) → ((r : ℕ) → 0 < count_of pool r → row_of mid r ≡ row_of pool r)
    → ((r : ℕ) → count_of pool' r + held tip.entries r ≡ count_of mid r + held tip'.entries r) → ((r : ℕ) → held tip.entries r < count_of mid r → row_of pool' r ≡ row_of mid r)
    → AreViews table pool n views → AreViews table pool' (n + 1) views
others_stay table pool mid pool' n views tip tip' counts derived kept grown others are =
    views_up table pool' n (n + 1) views (omega arith)
    (views_move table pool n pool' views
    (λ r. omega (arith, counts r, derived r, grown r))
    (λ r some. others r (omega (arith, some, counts r, derived r)) ∙ kept r (omega (arith, some, counts r)))
    are)

-- ids that are kept from a set to a larger one, and from that to a third one
keep_by : (g : Graph) (set mid more : List ℕ) (x y : ℕ) (one two three : Option (ℕ × ℕ)) → KeepIds g set mid x y one two → KeepIds g mid more x y two three → KeepIdsBy g set mid more x y one three
keep_by g set mid more x y None two three first second = tt
keep_by g set mid more x y (Some one) None three first second = absurd first
keep_by g set mid more x y (Some one) (Some two) None first second = absurd second
keep_by g set mid more x y (Some one) (Some two) (Some three) first second = ((λ same still. second.0 still ∙ first.0 same), (λ same still. second.1 still ∙ first.1 same))

pub kept_by_two : (table : Numbered) (set mid more : List ℕ) (es es' es'' : List (Option (ℕ × ℕ))) → AreKeptIds table set mid es es' → AreKeptIds table mid more es' es''
    → AreKeptIdsBy table set mid more es es''
kept_by_two table set mid more es es' es'' first second i x y at = keep_by _ set mid more x y (entry_at es i) (entry_at es' i) (entry_at es'' i) (first i x y at) (second i x y at)
