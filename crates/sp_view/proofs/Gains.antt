-- Where a set grows and the rows of a pair stay, the votes of the joined members are all that comes to the sum.
use Rattle.std.proofs.Common.{◌≡◌, ℕ, ◌+◌, ◌<◌, Bool, true, false, ◌&&◌, cond, List, [], length, get_or, Option, Some, None, refl, sym, ap, subst, ◌∙◌, arith}
use Rattle.std.specs.Prelude.{ℤ, pos, not, ◌-ℤ◌, slice_get, IsSome}
use Rattle.std.specs.List.{list_all, range_with_len}
use Rattle.std.proofs.lemmas.Int.{ints}
use Rattle.std.proofs.lemmas.Bool.{false≢true}
use Rattle.sp_bits.specs.Places.{places_where, meet, difference, IsRow}
use Rattle.sp_bits.proofs.RowSets.{has_difference, row_small}
use Rattle.sp_dag.specs.Numbered.{Numbered, graph_of, pairs_of}
use Rattle.sp_dag.proofs.Ranked.{downset_numbered}
use Rattle.sp_model.specs.Graph.{Graph, IsDownset, has, keys}
use Rattle.sp_model.specs.Votes.{sgn, virt}
use Rattle.sp_model.proofs.Sets.{all_at}
use Rattle.sp_frozen.specs.Voters.{AreFrozen, FrozenRows, HoldsFrozen}
use Rattle.sp_rows.specs.Pool.{Pool}
use Rattle.sp_view.specs.Settled.{AreSides, IsAsked}
use Rattle.sp_view.specs.Sums.{sum_of, AreJoined}
use Rattle.sp_view.specs.Views.{Viewed, entry_at, IsEntry, IsView}
use Rattle.sp_view.proofs.Tallies.{length_split, sum_is}
use Rattle.sp_view.proofs.TwoRows.{frozen_among}

-- what is left of a set without an older one that lies within it; both are read as rows
pub joined_of : (older set joined older_row row : List ℕ) → older_row ≡ older → row ≡ set → list_all (has row) older_row ≡ true → joined ≡ difference row older_row
    → AreJoined older set joined
joined_of older set joined older_row row o s within left = record {
  into = λ z h. ap (λ (l : List ℕ). has l z) (sym s) ∙ all_at (has row) older_row z within (ap (λ (l : List ℕ). has l z) o ∙ h);
  joined_is = left ∙ ap (difference row) o ∙ ap (λ (l : List ℕ). difference l older) s;
}

-- the members that a row has are those of the older set and those that joined
pub meet_gains : (older set joined row : List ℕ) → IsRow set → AreJoined older set joined
    → length (meet set row) ≡ length (meet older row) + length (meet joined row)
unfolding places_where
meet_gains older set joined row is grown =
    length_split (λ w. has set w && has row w) (λ w. has older w && has row w) (λ w. has joined w && has row w) (range_with_len 0 512)
    (λ w. each (has older w) (has set w) (has row w) (has joined w) (grown.into w) (ap (λ (l : List ℕ). has l w) grown.joined_is ∙ has_difference set older w (row_small set w is)))
  where
    each : (o s r j : Bool) → (o ≡ true → s ≡ true) → j ≡ (s && not o) → cond {A = ℕ} (s && r) 1 0 ≡ cond (o && r) 1 0 + cond (j && r) 1 0
    each true true true j into e = rw e refl
    each true true false j into e = rw e refl
    each true false r j into e = absurd (false≢true (into refl))
    each false true true j into e = rw e refl
    each false true false j into e = rw e refl
    each false false r j into e = rw e refl

-- the older sum is the sum less the votes of those that joined
pub sum_gains : (g : Graph) (older set joined : List ℕ) (x y : ℕ) (plus minus ups downs : List ℕ) → IsDownset g (keys g) → IsAsked g older → IsAsked g set → AreJoined older set joined
    → AreFrozen g older x y plus minus → AreFrozen g set x y plus minus → AreSides g older x y ups downs → AreSides g set x y ups downs
    → sum_of g older x y ≡ sum_of g set x y -ℤ (pos (length (meet joined plus)) -ℤ pos (length (meet joined minus)))
sum_gains g older set joined x y plus minus ups downs whole asked asked' grown frozen frozen' sides sides' =
    omega (
      arith,
      ints,
      sum_is g older x y whole asked plus minus ups downs frozen sides,
      sum_is g set x y whole asked' plus minus ups downs frozen' sides',
      meet_gains older set joined plus asked'.row grown,
      meet_gains older set joined minus asked'.row grown,
    )

-- so it is in two views that have the same rows of a pair
pub view_gains : (table : Numbered) (older view : Viewed) (pool : Pool) (frozen : FrozenRows) (joined : List ℕ) (i x y : ℕ) (gain : ℤ)
    → gain ≡ pos (length (meet joined (get_or frozen.pluses i []))) -ℤ pos (length (meet joined (get_or frozen.minuses i [])))
    → AreJoined older.members view.members joined → entry_at older.entries i ≡ entry_at view.entries i → IsSome (entry_at view.entries i) → i < length frozen.pluses
    → IsView table view pool → IsView table older pool → HoldsFrozen table frozen
    → ((z : ℕ) → has view.members z ≡ true → z < frozen.blocks) → ((z : ℕ) → has older.members z ≡ true → z < frozen.blocks) → slice_get (pairs_of table) i ≡ Some (x, y)
    → sum_of (graph_of table) older.members x y ≡ sum_of (graph_of table) view.members x y -ℤ gain
view_gains table older view pool frozen joined i x y gain gained grown same some listed is before holds added older_added at =
    by (entry_at view.entries i) some (is.entry i x y at)
    (subst (λ (o : Option (ℕ × ℕ)). IsEntry (graph_of table) older.members x y pool o) same (before.entry i x y at))
  where
    by : (o : Option (ℕ × ℕ)) → IsSome o → IsEntry (graph_of table) view.members x y pool o → IsEntry (graph_of table) older.members x y pool o
        → sum_of (graph_of table) older.members x y ≡ sum_of (graph_of table) view.members x y -ℤ gain
    by None some own its = absurd (false≢true some)
    by (Some e) some own its = rw gained
        (sum_gains (graph_of table) older.members view.members joined x y (get_or frozen.pluses i []) (get_or frozen.minuses i []) _ _
        (downset_numbered table is.order) before.asked is.asked grown
        (frozen_among table frozen older.members i x y holds at listed older_added) (frozen_among table frozen view.members i x y holds at listed added) its.1 own.1)

-- a virtual vote is the sign of the sum
pub virt_sum : (g : Graph) (set : List ℕ) (x y : ℕ) → virt g set x y ≡ sgn (sum_of g set x y)
unfolding virt
virt_sum g set x y = refl

-- two sets whose sums differ by nothing vote the same
pub same_votes : (g : Graph) (older set : List ℕ) (x y : ℕ) (gain : ℤ) → gain ≡ pos 0 → sum_of g older x y ≡ sum_of g set x y -ℤ gain → virt g older x y ≡ virt g set x y
same_votes g older set x y gain none is =
    let e : sum_of g older x y ≡ sum_of g set x y = omega (arith, ints, is, none) in
    virt_sum g older x y ∙ ap sgn e ∙ sym (virt_sum g set x y)
