-- Graphs whose blocks have frozen votes, and sets of blocks that hold the past of each member.
use Rattle.std.proofs.Common.{◌≡◌, ℕ, ◌<◌, true, List, [], ◌∷◌, ◌++◌, length, get_or, zero, suc, Some, sym, ap, subst, ◌∙◌, arith}
use Rattle.std.specs.Prelude.{ℤ, slice_get}
use Rattle.std.specs.List.{list_all}
use Rattle.sp_bits.specs.Places.{IsRow}
use Rattle.sp_dag.specs.Numbered.{Numbered, graph_of, pairs_of, AreInOrder, IsNumbered, IsPair, with_next}
use Rattle.sp_dag.proofs.Ranked.{past_members}
use Rattle.sp_model.specs.Graph.{has, in_past, past, IsDownset}
use Rattle.sp_frozen.specs.Voters.{FrozenRows, HoldsFrozen}
use Rattle.sp_frozen.proofs.Growth.{frozen_stays}
use Rattle.sp_plain.specs.Plain.{IsClosed}
use Rattle.sp_plain.proofs.Downsets.{past_below, past_closed}
use Rattle.sp_rows.specs.Pool.{Pool}
use Rattle.sp_view.specs.Settled.{IsAsked}
use Rattle.sp_view.specs.Summed.{AreSums}
use Rattle.sp_view.specs.Views.{AreListed, IsView, Viewed}
use Rattle.sp_view.proofs.Bests.{within_from}
use Rattle.sp_view.proofs.KeptSums.{sums_stay}
use Rattle.sp_view.proofs.Listing.{view_listed}
use Rattle.sp_view.proofs.Staying.{view_stays}
use Rattle.sp_tests_views.specs.Voting.{CanVote, IsBased}

-- the past of a block
module _ (table : Numbered) (b : ℕ) (order : AreInOrder table.parents) (lt : b < length table.parents) (row : List ℕ) (is : row ≡ past (graph_of table) b) where
  pub past_asked : IsRow row → IsAsked (graph_of table) row
  past_asked r = record { row = r; down = subst (λ (l : List ℕ). IsDownset (graph_of table) l) (sym is) (past_closed table b order lt) }

  pub past_lower : (z : ℕ) → has row z ≡ true → z < b
  past_lower z h = past_below table b z order lt (ap (λ (l : List ℕ). has l z) (sym is) ∙ h)

  pub past_set : IsClosed (graph_of table) (length table.parents) row
  past_set = record {
    below = λ z h. (let less : z < b = past_lower z h in omega (arith, less, lt));
    closed = λ z a h r. subst (λ (l : List ℕ). has l a ≡ true) (sym is) ((past_closed table b order lt).closed z a (ap (λ (l : List ℕ). has l z) (sym is) ∙ h) r);
  }

  -- within a set
  pub past_within : (set : List ℕ) → list_all (has set) row ≡ true → (z : ℕ) → in_past (graph_of table) z b ≡ true → has set z ≡ true
  past_within set all z r =
      within_from (record { members = row; entries = [] }) set all z (ap (λ (l : List ℕ). has l z) is ∙ past_members table z b order lt ∙ r)

-- what may be asked of a view
module _ (table : Numbered) (frozen : FrozenRows) (pool : Pool) (view : Viewed) (can : CanVote table frozen pool view) where
  pub can_added : (z : ℕ) → has view.members z ≡ true → z < frozen.blocks
  can_added z h = (let lt : z < length table.parents = can.is.below z h in omega (arith, lt, can.based.every))

  pub can_listed : AreListed view.entries (length frozen.pluses)
  can_listed = view_listed table view pool frozen can.is can.based.voted can_added

  pub can_set : (set : List ℕ) → set ≡ view.members → IsClosed (graph_of table) (length table.parents) set
  can_set set e = subst (λ (l : List ℕ). IsClosed (graph_of table) (length table.parents) l) (sym e) (record { below = can.is.below; closed = can.is.asked.down.closed })

-- each pair has frozen rows
pub based_pair : (table : Numbered) (frozen : FrozenRows) (i : ℕ) (pair : ℕ × ℕ) → IsBased table frozen → slice_get (pairs_of table) i ≡ Some pair → IsPair table pair → i < length frozen.pluses
based_pair table frozen i pair based at kind = based.voted.there i pair.0 pair.1 at (let lt = kind.within in omega (arith, lt, based.every))

-- no block has a vote yet
pub frozen_none : (table : Numbered) (frozen : FrozenRows) → frozen ≡ record { blocks = 0; pluses = []; minuses = [] } → HoldsFrozen table frozen
frozen_none table frozen e = subst (λ (f : FrozenRows). HoldsFrozen table f) (sym e) (record {
  within = omega arith;
  few = omega arith;
  below = λ i x y at lt. absurd (omega (arith, lt));
  there = λ i x y at lt. absurd (omega (arith, lt));
  each = λ i x y at lt. absurd (omega (arith, lt));
})

-- a graph with one block more
module _ (table more : Numbered) (id salt : ℕ) (parents : List ℕ) (is : more ≡ with_next table id salt parents) (numbered : IsNumbered table) (order' : AreInOrder more.parents) where
  in_order : AreInOrder (table.parents ++ parents ∷ [])
  in_order = subst (λ (t : Numbered). AreInOrder t.parents) is order'

  pub frozen_beside : (frozen : FrozenRows) → HoldsFrozen table frozen → HoldsFrozen more frozen
  frozen_beside frozen h = subst (λ (t : Numbered). HoldsFrozen t frozen) (sym is) (frozen_stays table id salt parents numbered in_order frozen h)

  pub view_beside : (view : Viewed) (pool : Pool) → IsView table view pool → IsView more view pool
  view_beside view pool h = subst (λ (t : Numbered). IsView t view pool) (sym is) (view_stays table id salt parents view pool numbered in_order h)

  pub sums_beside : (view : Viewed) (pool : Pool) (sums : List ℤ) → IsView table view pool → AreSums table view.members sums → AreSums more view.members sums
  sums_beside view pool sums h are =
      subst (λ (t : Numbered). AreSums t view.members sums) (sym is) (sums_stay table id salt parents view.members sums numbered in_order h.asked h.below are)

-- each of one id is there
pub each_there : (ids : List ℕ) (id k d : ℕ) → has ids id ≡ true → k < 1 → has ids (get_or (id ∷ []) k d) ≡ true
each_there ids id zero d there lt = there
each_there ids id (suc k) d there lt = absurd (omega (arith, lt))
