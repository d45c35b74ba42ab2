-- A block that joins a view's set, and the view's entries in a pool that has more room.
use Rattle.std.proofs.Common.{◌≡◌, ℕ, ◌<◌, ◌≤◌, ◌||◌, true, false, List, Option, Some, None, length, sym, subst, eqb, inl, inr, arith}
use Rattle.std.specs.Prelude.{IfSome}
use Rattle.std.proofs.lemmas.Bool.{and_parts}
use Rattle.sp_bits.specs.Places.{places_where}
use Rattle.sp_dag.specs.Numbered.{Numbered, graph_of}
use Rattle.sp_frozen.specs.Voters.{FrozenRows, HoldsFrozen}
use Rattle.sp_model.specs.Graph.{Graph, has, in_past}
use Rattle.sp_rows.specs.Pool.{Pool}
use Rattle.sp_view.specs.Stored.{row_of}
use Rattle.sp_view.specs.Views.{Viewed, entry_at, IsEntry, IsView, AreEntries}
use Rattle.sp_view.specs.Voting.{IsJoined}
use Rattle.sp_view.proofs.Held.{entry_moves}
use Rattle.sp_view.proofs.Members.{more_asked, more_below, more_joins, more_parts}

-- a pair with rows has both blocks in the set
pub inside_entry : (g : Graph) (set : List ℕ) (x y n : ℕ) (pool : Pool) (entry : Option (ℕ × ℕ)) → IsEntry g set x y pool entry → ((z : ℕ) → has set z ≡ true → z < n) → IfSome entry (λ _. y < n)
inside_entry g set x y n pool None is below = tt
inside_entry g set x y n pool (Some e) is below = below y (and_parts (has set x) (has set y) is.0).1

-- the entries of a view in another pool that has the same rows, with entries without rows behind them
pub entries_grown : (table : Numbered) (view : Viewed) (pool pool' : Pool) (entries : List (Option (ℕ × ℕ))) → IsView table view pool
    → ((i : ℕ) → entry_at entries i ≡ entry_at view.entries i) → ((r : ℕ) → row_of pool' r ≡ row_of pool r) → AreEntries table view.members pool' entries
entries_grown table view pool pool' entries is same rows i x y at =
    subst (λ (e : Option (ℕ × ℕ)). IsEntry (graph_of table) view.members x y pool' e) (sym (same i))
    (entry_moves (graph_of table) view.members x y pool pool' (entry_at view.entries i) (λ row _. rows row) (is.entry i x y at))

-- the set of a view with a block whose past it holds
pub view_joined : (table : Numbered) (frozen : FrozenRows) (view : Viewed) (pool : Pool) (b : ℕ) (more : List ℕ) → length table.parents ≤ 512 → IsView table view pool → HoldsFrozen table frozen
    → ((z : ℕ) → has view.members z ≡ true → z < frozen.blocks) → b < frozen.blocks → has view.members b ≡ false
    → ((z : ℕ) → in_past (graph_of table) z b ≡ true → has view.members z ≡ true) → more ≡ places_where (λ p. has view.members p || eqb p b)
    → IsJoined table frozen b view.members more
view_joined table frozen view pool b more small is holds added b_added new past e =
    subst (IsJoined table frozen b view.members) (sym e)
    (record {
      voting = record {
        order = is.order;
        asked = more_asked table is.order small view.members b is.asked is.below within new past;
        below = more_below table is.order small view.members b is.asked is.below within new past;
        held = holds;
        added = λ z h. elim (more_parts table is.order small view.members b is.asked is.below within new past z h) [
          | inl there ↦ added z there
          | inr same ↦ omega (arith, same)
        ];
      };
      joins = more_joins table is.order small view.members b is.asked is.below within new past;
      row = is.asked.row;
    })
  where
    within : b < length table.parents
    within = omega (arith, holds.within)
