-- The view of no blocks is a view, in each pool.
use Rattle.std.proofs.Common.{◌≡◌, true, ℕ, List, [], Option, Some, refl, sym, subst, ◌∙◌, inl, inr, arith}
use Rattle.std.specs.Prelude.{slice_get}
use Rattle.std.proofs.lemmas.Bool.{false≢true}
use Rattle.sp_bits.specs.Places.{IsRow}
use Rattle.sp_dag.specs.Numbered.{Numbered, graph_of, AreInOrder}
use Rattle.sp_dag.proofs.Grown.{nowhere}
use Rattle.sp_model.specs.Graph.{has}
use Rattle.sp_rows.specs.Pool.{Pool}
use Rattle.sp_view.specs.Views.{Viewed, IsStart, IsView, IsEntry}
use Rattle.sp_view.proofs.Bests.{best_one}
use Rattle.sp_view.proofs.Votes.{none_past}

abbrev pub nothing : Viewed
nothing = record { members = []; entries = [] }

empty_row : IsRow []
unfolding IsRow
empty_row = sym nowhere

pub view_nothing : (table : Numbered) (pool : Pool) → AreInOrder table.parents → IsView table nothing pool
view_nothing table pool order = record {
  order = order;
  asked = record { row = empty_row; down = record { all_complete = λ z h. absurd (false≢true h); closed = λ z a h r. absurd (false≢true h) } };
  below = λ z h. absurd (false≢true h);
  few = omega arith;
  entry = λ i x y at. subst (λ (e : Option (ℕ × ℕ)). IsEntry (graph_of table) [] x y pool e) (sym (none_past [] i (omega arith))) refl;
  live = λ row. omega arith;
  once = λ row. omega arith;
}

-- what a view starts from is a view within the target
pub view_start : (table : Numbered) (views : List Viewed) (target : List ℕ) (pool : Pool) (view : Viewed) → AreInOrder table.parents → IsStart views target view
    → ((i : ℕ) (view : Viewed) → slice_get views i ≡ Some view → IsView table view pool) → IsView table view pool
view_start table views target pool view order start each = elim start [
  | inl best ↦ each best.0 view best.1.at
  | inr none ↦ subst (λ (v : Viewed). IsView table v pool) (sym none.0) (view_nothing table pool order)
]

pub start_within : (views : List Viewed) (target : List ℕ) (view : Viewed) → IsStart views target view → (z : ℕ) → has view.members z ≡ true → has target z ≡ true
start_within views target view start z h = elim start [
  | inl best ↦ best.1.within z h
  | inr none ↦ absurd (false≢true (subst (λ (v : Viewed). has v.members z ≡ true) none.0 h))
]

-- there is one start
pub start_one : (views : List Viewed) (target : List ℕ) (one other : Viewed) → IsStart views target one → IsStart views target other → one ≡ other
start_one views target one other start start' = elim start [
  | inl best ↦ elim start' [
    | inl best' ↦ best_one views target best.0 best'.0 one other best.1 best'.1
    | inr none' ↦ absurd (none'.1 best.0 one best.1.at best.1.within)
  ]
  | inr none ↦ elim start' [
    | inl best' ↦ absurd (none.1 best'.0 other best'.1.at best'.1.within)
    | inr none' ↦ none.0 ∙ sym none'.0
  ]
]
