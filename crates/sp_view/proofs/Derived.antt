-- The entry of an old pair in a set that grew.
use Rattle.std.proofs.Common.{◌≡◌, ℕ, ◌<◌, true, ◌&&◌, List, [], length, Some, subst, sym, ◌∙◌}
use Rattle.std.specs.Prelude.{slice_get}
use Rattle.std.proofs.lemmas.Bool.{and_from, and_parts}
use Rattle.sp_bits.specs.Places.{difference}
use Rattle.sp_dag.specs.Numbered.{Numbered, graph_of, pairs_of}
use Rattle.sp_frozen.specs.Voters.{FrozenRows}
use Rattle.sp_model.specs.Graph.{Graph, has}
use Rattle.sp_rows.specs.Pool.{Pool}
use Rattle.sp_view.specs.Settled.{AreKept, AreOpen, AreSides}
use Rattle.sp_view.specs.Stored.{row_of}
use Rattle.sp_view.specs.Views.{IsEntry, KeepIds}
use Rattle.sp_view.specs.Voting.{IsGrown}
use Rattle.sp_view.proofs.JoinedRows.{unasked_sides}

module _ (table : Numbered) (frozen : FrozenRows) (before set : List ℕ) (grown : IsGrown table frozen before set) (i x y : ℕ) (pool : Pool) (e : ℕ × ℕ)
    (is : IsEntry (graph_of table) before x y pool (Some e)) where
  both : (has before x ≡ true) × (has before y ≡ true)
  both = and_parts (has before x) (has before y) is.0

  -- the frozen rows of an old pair are there
  pub grown_listed : slice_get (pairs_of table) i ≡ Some (x, y) → i < length frozen.pluses
  grown_listed at = grown.voting.held.there i x y at (grown.voting.added y (grown.into y both.1))

  pub grown_inside : (has set x && has set y) ≡ true
  grown_inside = and_from (has set x) (has set y) (grown.into x both.0) (grown.into y both.1)

  -- where nothing is asked, the entry is that of the larger set too
  pub unasked_entry : (pool' : Pool) (todo : List ℕ) → todo ≡ [] → ((r : ℕ) → row_of pool' r ≡ row_of pool r)
      → AreKept (graph_of table) set x y (has todo) (difference (row_of pool e.0) todo) (difference (row_of pool e.1) todo)
      → IsEntry (graph_of table) set x y pool' (Some e)
  unasked_entry pool' todo none same kept = (
    grown_inside,
    record { plus_is = same e.0 ∙ sides.plus_is; minus_is = same e.1 ∙ sides.minus_is },
  )
    where
      sides : AreSides (graph_of table) set x y (row_of pool e.0) (row_of pool e.1)
      sides =
          unasked_sides (graph_of table) before set x y (row_of pool e.0) (row_of pool e.1) grown.asked.row grown.voting.asked is.1
          (subst (λ (l : List ℕ). AreKept (graph_of table) set x y (has l) (difference (row_of pool e.0) l) (difference (row_of pool e.1) l)) none kept)

-- what is asked of a pair, in a pool that has the same rows
pub asked_moves : (g : Graph) (set : List ℕ) (x y : ℕ) (todo : List ℕ) (pool pool' : Pool) (e : ℕ × ℕ) → ((r : ℕ) → row_of pool' r ≡ row_of pool r)
    → AreOpen g set x y (has todo) × AreKept g set x y (has todo) (difference (row_of pool e.0) todo) (difference (row_of pool e.1) todo)
    → AreOpen g set x y (has todo) × AreKept g set x y (has todo) (difference (row_of pool' e.0) todo) (difference (row_of pool' e.1) todo)
asked_moves g set x y todo pool pool' e same asked = rw (same e.0, same e.1) asked

-- a row that has the same places keeps its id
pub rows_kept : (g : Graph) (set more : List ℕ) (x y : ℕ) (pool pool' : Pool) (e e' : ℕ × ℕ) (new new' : List ℕ) → ((r : ℕ) → row_of pool' r ≡ row_of pool r)
    → AreSides g set x y (row_of pool e.0) (row_of pool e.1) → AreSides g more x y new new'
    → (new ≡ row_of pool' e.0 → e'.0 ≡ e.0) → (new' ≡ row_of pool' e.1 → e'.1 ≡ e.1)
    → KeepIds g set more x y (Some e) (Some e')
rows_kept g set more x y pool pool' e e' new new' same is sides kept kept' = (
  λ h. kept (sides.plus_is ∙ sym h ∙ sym is.plus_is ∙ sym (same e.0)),
  λ h. kept' (sides.minus_is ∙ sym h ∙ sym is.minus_is ∙ sym (same e.1)),
)
